use Rattle.std.proofs.Common.{◌<◌, length, refl, ap, ◌∙◌, subst}
use Rattle.sheet.specs.Files.{Laid}
use Rattle.sheet.specs.declared.trailer.Trailer.{Trailer}
use Rattle.sheet.proofs.reading.examine.Goals as goal

pub returns-then-space-trailer : goal.returns-then-space-trailer
returns-then-space-trailer c =
    let l = c.in_ok-trailer.ensures in (
      l.0,
      subst (Laid (length c.args.file.now)) l.1 (c.if-not-is_laid.ensures.0 refl),
      (c.in_ok-head.head, c.in_ok-head.ensures ∙ ap (λ t. t.head) l.1),
      subst (λ (t : Trailer). c.args.space < t.count) l.1 c.if-space-trailer.true,
    )
