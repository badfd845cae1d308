-- Rows that declare a name already.
use Rattle.std.proofs.Common.{◌≡◌, ◌∙◌, ℕ, ◌<◌, ◌≤◌, Bool, true, false, cond, nat_eq, List}
use Rattle.std.proofs.Common.{length, take, get_or, IsTrue}
use Rattle.std.proofs.Common.{ap, sym, refl, subst, arith, get_or-take, length-take-le}
use Rattle.std.specs.Prelude.{◌↔◌}
use Rattle.std.specs.List.{list_any}
use Rattle.std.specs.Ordering.{nat_cmp, is_eq, ordering_then}
use Rattle.std.specs.Str.{bytes_eq}
use Rattle.std.specs.Cmp.Lexicographic.{slice_cmp}
use Rattle.std.specs.declared.cmp.Ordering.{Ordering}
use Rattle.std.specs.declared.cmp.Ordering.TheVariants.{Less, Equal, Greater}
use Rattle.std.proofs.lemmas.Bool.Decides.{same_from_decides, nat_tests}
use Rattle.std.proofs.lemmas.Cmp.{nat_cmp_total, tied_itself}
use Rattle.std.proofs.lemmas.List.{get_or_default}
use Rattle.std.proofs.lemmas.List.Folds.{Any-from_list_any, list_any-from_Any}
use Rattle.std.proofs.lemmas.Map.Text.{is_eq-slice_cmp}
use Rattle.std.proofs.lemmas.Slice.Eq.{bytes_eq-Decides}
use Rattle.iec_tables.specs.Words.{raised_all}
use Rattle.scope_names.specs.declared.names.NameRow.{NameRow}
use Rattle.scope_names.specs.Scopes.{Declares, Repeats, StandsAt, declares}
use Rattle.scope_names.specs.Searches.{against}
use Rattle.scope_names.proofs.Tables.{tied, declared}
use Rattle.unit_rules.specs.Twice.{Row, is_declared}

pub declares_is : (scope : ℕ) (name : List ℕ) (row : Row) (r : Bool) → row.scope ≡ scope
    → (IsTrue r ↔ (raised_all row.name.now ≡ raised_all name)) → r ≡ declares scope name row
declares_is scope name row r e h =
    let cmp = slice_cmp nat_cmp (raised_all row.name.now) (raised_all name) in
    let names : r ≡ bytes_eq (raised_all row.name.now) (raised_all name) =
    same_from_decides r (bytes_eq (raised_all row.name.now) (raised_all name)) (h.0, h.1)
    (bytes_eq-Decides (raised_all row.name.now) (raised_all name)) in
    let scopes : declares scope name row ≡ is_eq cmp =
    ap (λ (s : ℕ). is_eq (ordering_then (nat_cmp s scope) cmp)) e
    ∙ ap (λ (o : Ordering). is_eq (ordering_then o cmp)) (tied_itself nat_cmp_total scope) in
    names ∙ sym (is_eq-slice_cmp (raised_all row.name.now) (raised_all name)) ∙ sym scopes

equal : (o : Ordering) → is_eq o ≡ true → o ≡ Equal
equal Less h = cc
equal Equal h = refl
equal Greater h = cc

is_row : (rows : List Row) (at : ℕ) (x y : Row) → StandsAt rows at x → StandsAt rows at y → x ≡ y
is_row rows at x y a b = sym a.1 ∙ get_or_default rows at x y a.0 ∙ b.1

pub repeats_is : (rows : List Row) (at : ℕ) (row : Row) (r : Bool) → StandsAt rows at row
    → (IsTrue r ↔ Repeats rows at) → r ≡ is_declared (take at rows) row
repeats_is rows at row r stands h =
    let test : Row → Bool = declares row.scope row.name.now in
    let long : length (take at rows) ≡ at = length-take-le at rows (omega (arith, stands.0)) in
    same_from_decides r (is_declared (take at rows) row) (h.0, h.1) (
      λ any.
          let found = Any-from_list_any test (take at rows) any in
          let k = found.0 in
          let x = found.1 in
          let within : k < at = omega (arith, long, found.2) in
          record {
            row = row;
            here = stands;
            earlier = k;
            is_earlier = within;
            other = x;
            there = (omega (arith, stands.0), sym (get_or-take at rows k x within) ∙ found.3);
            same = declared row.scope row.name.now x
                (equal (against row.scope row.name.now x) found.4);
          },
      λ again.
          let same : again.row ≡ row = is_row rows at again.row row again.here stands in
          let declares_same : Declares row.scope row.name.now again.other =
          subst (λ (x : Row). Declares x.scope x.name.now again.other) same again.same in
          list_any-from_Any test (take at rows) (
            again.earlier,
            again.other,
            omega (arith, long, again.is_earlier),
            get_or-take at rows again.earlier again.other again.is_earlier ∙ again.there.1,
            ap is_eq (tied row.scope row.name.now again.other declares_same),
          ),
    )

pub otherwise : (a b : ℕ) (x y : Bool) → ¬ (a ≡ b) → cond (nat_eq a b) x y ≡ y
otherwise a b x y n = grind (arith, nat_tests)
