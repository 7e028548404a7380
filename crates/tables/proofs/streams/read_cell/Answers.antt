use Rattle.std.proofs.Common.{◌≡◌, rules}
use Rattle.std.specs.Result.{result_unwrap_or}
use Rattle.tables.proofs.Changing.{put_cell}
use Rattle.tables.proofs.streams.read_cell.Goals as goal

pub returns-clause-written : goal.returns-clause-written
returns-clause-written g c =
    let same : c.unwrap_or.result ≡ result_unwrap_or (g.E.Readable.read_of (g.S.Source.waiting c.args.source.now)) g.E.Element.NULL = search rules in
    put_cell _ _ _ _ c.requires same
