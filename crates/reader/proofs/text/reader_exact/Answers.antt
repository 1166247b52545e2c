use Rattle.reader.proofs.Exactly.{reads_exactly}
use Rattle.reader.proofs.text.reader_exact.Goals as goal

pub returns : goal.returns
returns c = reads_exactly
