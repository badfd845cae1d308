use Rattle.std.proofs.Common.{◌≡◌, ℕ, ◌<◌, get_or, map}
use Rattle.iec_tables.specs.Words.{raised_all}
use Rattle.standard_names.specs.declared.block.BlockPart.{BlockPart}
use Rattle.standard_names.specs.Blocks.{part_of, parts_of}
use Rattle.standard_names.proofs.block.block_part.Given as goal

abbrev pub invariant-loop-part : goal.invariant-loop-part
invariant-loop-part l = record {
  items : map part_of l.part-items ≡ parts_of l.fn.block;
  missed : (k : ℕ) (d : BlockPart) → k < l.part-index → ¬ ((get_or l.part-items k d).name.now ≡ raised_all l.name);
}
