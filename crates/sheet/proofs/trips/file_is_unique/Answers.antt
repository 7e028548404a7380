use Rattle.std.proofs.Common.{refl}
use Rattle.sheet.specs.Files.{encode}
use Rattle.sheet.proofs.RoundTrip.{unique}
use Rattle.sheet.proofs.trips.file_is_unique.Goals as goal

pub returns : goal.returns
returns c = λ a b d e la lb same. unique (encode a d) b e lb same a d la refl
