use Rattle.std.proofs.Common.{set, ℤ, pos, ap, ◌∙◌, arith, w32}
use mir.Facts.{to_z_pos}
use Rattle.element.proofs.Writes.{put_one}
use Rattle.expressions.proofs.integers.write_size.Goals as goal

pub returns : goal.returns
returns c = ap (λ (z : ℤ). set c.args.integers.now c.args.to z) (to_z_pos w32 (omega arith)) ∙ put_one c.args.integers.now c.args.to (pos c.args.n) c.requires.within
