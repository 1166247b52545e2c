pub mod FaultFacts
pub mod StartFacts
pub mod EffectFacts
pub mod SectionFacts
pub mod CaseFacts
pub mod Exactly
pub mod TextFacts
pub mod Specimens
