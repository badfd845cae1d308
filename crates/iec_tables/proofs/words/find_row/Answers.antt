use Rattle.std.proofs.Common.{rules, ◌≡◌, ℕ, ◌<◌, List, length, get_or}
use Rattle.std.specs.List.{HoldsAt}
use Rattle.std.specs.Ordering.{nat_cmp}
use Rattle.std.specs.declared.cmp.Ordering.{Ordering}
use Rattle.std.specs.declared.cmp.Ordering.TheVariants.{Equal}
use Rattle.std.specs.Cmp.Lexicographic.{slice_cmp, nat_list_cmp_total}
use Rattle.std.specs.FinMap.{slice_cmp-IsAntisymmetric, nat_cmp-IsAntisymmetric}
use Rattle.std.proofs.lemmas.Fn.{always_returns_same}
use Rattle.std.proofs.lemmas.List.Elements.{Contains-get_or}
use Rattle.iec_tables.specs.declared.words.Word.{Word}
use Rattle.iec_tables.specs.Words.{raised_all, HasRow}
use Rattle.iec_tables.proofs.Rows.{searchable, no-row}
use Rattle.iec_tables.proofs.words.find_row.Goals as goal

abbrev pub against : List ℕ → Word → Ordering
against key row = slice_cmp nat_cmp row.text.now key

row-found : (rows : List Word) (key : List ℕ) (i : ℕ) (d : Word) → i < length rows → HoldsAt (λ w. against key w ≡ Equal) rows i → HasRow rows key (get_or rows i d).number
row-found rows key i d h at = record {
  row = get_or rows i d;
  there = Contains-get_or rows i d h;
  text_is = slice_cmp-IsAntisymmetric nat_cmp-IsAntisymmetric _ _ (at d);
  number_is = λ _. (get_or rows i d).number;
}

pub returns-in-Ok : goal.returns-in-Ok
returns-in-Ok c =
    let at = c.in-Ok.ensures.position (against (raised_all c.args.key.now)) (always_returns_same _ (λ a r. r ≡ against (raised_all c.args.key.now) a.0.now) _ (λ a r q called. search rules)) in
    row-found c.args.rows.now (raised_all c.args.key.now) c.in-Ok.place _ c.in-Ok.ensures.bound at

pub returns-in-Err : goal.returns-in-Err
returns-in-Err c =
    let at = c.in-Err.ensures.position (against (raised_all c.args.key.now)) (always_returns_same _ (λ a r. r ≡ against (raised_all c.args.key.now) a.0.now) _ (λ a r q called. search rules)) in
    no-row nat_list_cmp_total (λ row. row.text.now) c.args.rows.now (raised_all c.args.key.now) c.in-Err.field-0
    (at (searchable nat_list_cmp_total (λ row. row.text.now) c.args.rows.now (raised_all c.args.key.now) c.requires))
