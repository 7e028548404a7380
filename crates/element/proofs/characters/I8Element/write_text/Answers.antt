use Rattle.std.proofs.Common.{rules}
use Rattle.element.proofs.Writes.{put_one}
use Rattle.element.proofs.characters.I8Element.write_text.Goals as goal

pub returns : goal.returns
returns c = search (rules, put_one)
