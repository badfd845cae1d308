use Rattle.std.proofs.Common.{arith}
use Rattle.iec_tables.specs.Words.{raised_all}
use Rattle.standard_names.specs.Blocks.{parts_of}
use Rattle.standard_names.proofs.Names.{no-part}
use Rattle.standard_names.proofs.block.block_part.Goals as goal

pub returns : goal.returns
returns c =
    no-part c.block_parts-part-items.result.now (parts_of c.args.block) (raised_all c.args.name.now) c.loop-part.invariant.items
    (λ k d l. c.loop-part.invariant.missed k d (omega arith))
