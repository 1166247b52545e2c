pub mod FinestFacts
