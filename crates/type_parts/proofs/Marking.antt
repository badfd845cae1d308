-- Lists in which a name stands twice are those that are marked.
use Rattle.std.proofs.Common.{◌≡◌, ◌∙◌, ℕ, ◌+◌, ◌<◌, Bool, true, false, List, length, map}
use Rattle.std.proofs.Common.{arith, ap, sym, refl, subst, true≢false, nat_eq}
use Rattle.std.specs.Prelude.{◌&&◌, not}
use Rattle.std.specs.List.{list_any}
use Rattle.std.proofs.lemmas.Bool.{false_from_ne_true}
use Rattle.std.proofs.lemmas.Bool.Decides.{same_from_decides, Decides-eqb}
use Rattle.std.proofs.lemmas.List.{ext_get_or, length-map, get_or-map}
use Rattle.iec_tables.specs.Words.{raised_all}
use Rattle.scope_names.specs.declared.names.NameRow.{NameRow}
use Rattle.type_parts.specs.Places.{is_name, place_in, has_twice}
use Rattle.type_parts.specs.Tables.{list_at, IsTable}
use Rattle.type_parts.specs.steps.Marks.{is_other, is_further, marks, AreMarked}
use Rattle.type_parts.proofs.Members.{passing, passes}
use Rattle.type_parts.proofs.Positions.{at, found_before, same_raised, TwoAlike, twice_by_two}
use Rattle.type_parts.proofs.Positions.{two_by_twice}
use Rattle.type_parts.proofs.Finding.{named, all}

both : (a b : Bool) → (a && b) ≡ true → (a ≡ true) × (b ≡ true)
both true b h = (refl, h)
both false b h = absurd (true≢false (sym h))

and_true : (a b : Bool) → a ≡ true → b ≡ true → (a && b) ≡ true
and_true a b h k = rw h k

other : (a b : ℕ) → ¬ (a ≡ b) → not (nat_eq a b) ≡ true
other a b n = ap not (false_from_ne_true (nat_eq a b) (λ h. n ((Decides-eqb a b).0 h)))

apart : (a b : ℕ) → not (nat_eq a b) ≡ true → ¬ (a ≡ b)
apart a b h e = true≢false (sym h ∙ ap not ((Decides-eqb a b).1 e))

module _ (table : List (NameRow ℕ)) (lists : List (List (List ℕ))) (t : IsTable table lists) where
  two_by_marks : (n : ℕ) → list_any (marks lists n) table ≡ true → TwoAlike (list_at lists n)
  two_by_marks n h =
      let mark = passing (marks lists n) table h in
      let row = mark.0 in
      let parts = both (nat_eq row.scope n) (is_further lists row) mark.2 in
      let names = list_at lists row.scope in
      let e = named table lists t row mark.1 in
      let found = found_before (is_name row.name.now) 0 names row.what e.within
      (same_raised row.name.now (at names row.what) (ap raised_all (sym e.name_is))) in
      let differ : ¬ (0 + found.0 ≡ row.what) =
      apart (0 + found.0) row.what (sym (ap (λ o. is_other o row.what) found.3) ∙ parts.1) in
      let below : found.0 < row.what = grind (arith, differ, found.1) in
      let alike : is_name (at names row.what) (at names found.0) ≡ true =
      subst (λ x. is_name x (at names found.0) ≡ true) e.name_is found.2 in
      subst (λ s. TwoAlike (list_at lists s)) ((Decides-eqb row.scope n).0 parts.0)
      (found.0, row.what, below, e.within, alike)

  marks_by_two : (n : ℕ) → TwoAlike (list_at lists n) → list_any (marks lists n) table ≡ true
  marks_by_two n (q, p, l, m, h) =
      let names = list_at lists n in
      let r = all table lists t n p m in
      let found = found_before (is_name (at names p)) 0 names q (omega arith) h in
      let differ : ¬ (0 + found.0 ≡ p) = λ e. absurd (omega (arith, found.1, e)) in
      let is : is_further lists r.row ≡ true =
      ap (λ s. is_other (place_in (list_at lists s) r.row.name.now) r.row.what) r.scope_is
      ∙ ap (λ x. is_other (place_in names x) r.row.what) r.name_is
      ∙ ap (λ w. is_other (place_in names (at names p)) w) r.what_is
      ∙ ap (λ o. is_other o p) found.3
      ∙ other (0 + found.0) p differ in
      passes (marks lists n) table r.row r.there
      (and_true (nat_eq r.row.scope n) (is_further lists r.row)
      ((Decides-eqb r.row.scope n).1 r.scope_is) is)

  marked_is : (n : ℕ) → list_any (marks lists n) table ≡ has_twice (list_at lists n)
  marked_is n =
      let names = list_at lists n in
      same_from_decides (list_any (marks lists n) table) (has_twice names)
      (two_by_marks n, marks_by_two n)
      (two_by_twice names, λ (q, p, l, m, h). twice_by_two names q p l m h)

  pub marks_are : (count : ℕ) (twice : List Bool) → length lists ≡ count
      → AreMarked lists count table twice → twice ≡ map has_twice lists
  marks_are count twice e marked =
      ext_get_or false twice (map has_twice lists)
      (marked.long ∙ sym e ∙ sym (length-map lists has_twice))
      (λ i l. marked.marked i (omega (arith, marked.long)) ∙ marked_is i
      ∙ sym (get_or-map has_twice lists i _ false (omega (arith, marked.long))))
