use Rattle.std.proofs.Common.{sym, refl, ap, ◌∙◌}
use Rattle.types.specs.declared.kinds.Kind.TheVariants.{Boolean, Character, Integer}
use Rattle.tables.specs.Lent.{seen}
use Rattle.tables.proofs.Shaping.{printed_in}
use Rattle.tables.proofs.lent.Shared.print.Goals as goal
use Rattle.tables.proofs.lent.Shared.print.Goals.{in-Boolean, in-Character, in-Integer}

pub returns-in-Some-clause-prints : goal.returns-in-Some-clause-prints
returns-in-Some-clause-prints c =
    let a = c.args in
    elim c.match-kind.branch [
      | in-Boolean w ↦ printed_in a.kind Boolean (seen a.self.now) a.shape a.r a.s a.at a.output.now.bytes.now a.output.now.printed w.print_cells-end.result _ w.print_cells-end.new.output _ w.in-Boolean.is w.print_cells-end.ensures (sym c.in-Some.is ∙ w.end-is) (ap (λ o. o.1.0.now) w.output-is)
      | in-Character w ↦ printed_in a.kind Character (seen a.self.now) a.shape a.r a.s a.at a.output.now.bytes.now a.output.now.printed w.print_cells-end-in-Character.result _ w.print_cells-end-in-Character.new.output _ w.in-Character.is w.print_cells-end-in-Character.ensures (sym c.in-Some.is ∙ w.end-is) (ap (λ o. o.1.0.now) w.output-is)
      | in-Integer w ↦ printed_in a.kind Integer (seen a.self.now) a.shape a.r a.s a.at a.output.now.bytes.now a.output.now.printed w.print_cells-end-in-Integer.result _ w.print_cells-end-in-Integer.new.output _ w.in-Integer.is w.print_cells-end-in-Integer.ensures (sym c.in-Some.is ∙ w.end-is) (ap (λ o. o.1.0.now) w.output-is)
    ]

pub returns-in-None-clause-prints : goal.returns-in-None-clause-prints
returns-in-None-clause-prints c =
    let a = c.args in (
      elim c.match-kind.branch [
        | in-Boolean w ↦ printed_in a.kind Boolean (seen a.self.now) a.shape a.r a.s a.at a.output.now.bytes.now a.output.now.printed w.print_cells-end.result _ w.print_cells-end.new.output _ w.in-Boolean.is w.print_cells-end.ensures (sym c.in-None.is ∙ w.end-is) (ap (λ o. o.1.0.now) w.output-is)
        | in-Character w ↦ printed_in a.kind Character (seen a.self.now) a.shape a.r a.s a.at a.output.now.bytes.now a.output.now.printed w.print_cells-end-in-Character.result _ w.print_cells-end-in-Character.new.output _ w.in-Character.is w.print_cells-end-in-Character.ensures (sym c.in-None.is ∙ w.end-is) (ap (λ o. o.1.0.now) w.output-is)
        | in-Integer w ↦ printed_in a.kind Integer (seen a.self.now) a.shape a.r a.s a.at a.output.now.bytes.now a.output.now.printed w.print_cells-end-in-Integer.result _ w.print_cells-end-in-Integer.new.output _ w.in-Integer.is w.print_cells-end-in-Integer.ensures (sym c.in-None.is ∙ w.end-is) (ap (λ o. o.1.0.now) w.output-is)
      ],
      refl,
    )
