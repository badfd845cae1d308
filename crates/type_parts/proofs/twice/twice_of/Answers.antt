use Rattle.type_parts.proofs.Marking.{marks_are}
use Rattle.type_parts.proofs.twice.twice_of.Goals as goal

pub returns : goal.returns
returns c lists t long =
    marks_are c.args.names.now lists t c.args.count c.in_ok-twice.twice.items long
    (c.in_ok-twice.ensures lists t)
