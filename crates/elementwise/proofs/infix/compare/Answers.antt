use Rattle.std.proofs.Common.{rules}
use Rattle.std.proofs.lemmas.Slice.{put_mid-paste}
use Rattle.elementwise.proofs.infix.compare.Goals as goal

pub returns-in-Less : goal.returns-in-Less
returns-in-Less c = let e = c.in-Less.is in search (rules, put_mid-paste)

pub returns-in-Greater : goal.returns-in-Greater
returns-in-Greater c = let e = c.in-Greater.is in search (rules, put_mid-paste)

pub returns-in-AtMost : goal.returns-in-AtMost
returns-in-AtMost c = let e = c.in-AtMost.is in search (rules, put_mid-paste)

pub returns-in-AtLeast : goal.returns-in-AtLeast
returns-in-AtLeast c = let e = c.in-AtLeast.is in search (rules, put_mid-paste)
