use Rattle.std.proofs.Common.{◌≡◌, None, rules}
use Rattle.std.specs.List.{slice_get}
use Rattle.standard_names.specs.declared.block.StandardBlock.TheVariants.{Sr}
use Rattle.standard_names.specs.Blocks.{block_name}
use Rattle.iec_tables.specs.Words.{raised_all}
use Rattle.standard_names.specs.declared.block.TheConstants.{BLOCKS}
use Rattle.standard_names.proofs.Rows.{exact, found, missed}
use Rattle.standard_names.proofs.Names.{AnyBlock, all_any_block, blocks-alike, block-among}
use Rattle.standard_names.proofs.block.standard_block.Goals as goal

pub returns-in-Some : goal.returns-in-Some
returns-in-Some c t =
    let s = raised_all c.args.name.now in
    let got : c.copied.result ≡ slice_get BLOCKS c.in-Some.number = search rules in
    let is = found block_name AnyBlock BLOCKS c.block_names.result c.block_names.ensures.texts Sr (all_any_block BLOCKS) c.block_names.ensures.numbers s c.in-Some.number c.in-Some.ensures
    c.copied.result got in
    let all = exact block_name AnyBlock blocks-alike c.copied.result s is t in
    (λ e. (all.0 e).1, λ e. all.1 (tt, e))

pub returns-in-None : goal.returns-in-None
returns-in-None c t =
    let no = missed block_name AnyBlock BLOCKS c.block_names.result c.block_names.ensures.texts block-among (raised_all c.args.name.now) c.in-None.ensures in
    let all = exact block_name AnyBlock blocks-alike None (raised_all c.args.name.now) no t in
    (λ e. (all.0 e).1, λ e. all.1 (tt, e))
