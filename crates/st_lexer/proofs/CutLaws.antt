-- Each text has exactly one cut or exactly one fault.
use Rattle.std.proofs.Common.{◌≡◌, ℕ, ◌≤◌, Bool, true, false, cond, ◌⊎◌, inl, inr, List, [], ◌∷◌, length, take, drop, refl, sym, ap, subst, ◌∙◌, arith}
use Rattle.std.specs.Prelude.{bytes_eq}
use Rattle.std.specs.Str.{IsUtf8, IsValidUpTo}
use Rattle.std.proofs.lemmas.List.{length-drop, length-take}
use Rattle.iec_tables.specs.declared.fault.FaultCode.{FaultCode}
use Rattle.iec_tables.specs.declared.fault.FaultCode.TheVariants.{NotUtf8}
use Rattle.token_grammar.specs.declared.token.Token.{Token}
use Rattle.st_lexer.specs.Faulty.{IsFaulty}
use Rattle.st_lexer.specs.Cut.{IsCutTo, IsCut, IsFault, mark_length}
use Rattle.st_lexer.specs.Laws.{SomeCut, OneCut, OneFault, NotBoth}
use Rattle.st_lexer.proofs.Tests.{same}
use Rattle.st_lexer.proofs.OneKind.{one_fault, fault_some}
use Rattle.st_lexer.proofs.Cuts.{Ends, done, stopped, one_cut, SomeEnd, some_end}
use Rattle.st_lexer.proofs.Utf8.{valid_or, not_both, one_place}

pub mark_within : (text : List ℕ) → mark_length text ≤ length text
mark_within text = by (bytes_eq (take 3 text) (239 ∷ 187 ∷ 191 ∷ [])) refl
  where
    by : (v : Bool) → bytes_eq (take 3 text) (239 ∷ 187 ∷ 191 ∷ []) ≡ v → cond v 3 0 ≤ length text
    by true e = let l = ap length (same (take 3 text) (239 ∷ 187 ∷ 191 ∷ []) e) in omega (arith, l, length-take 3 text)
    by false e = omega arith

by_end : (text : List ℕ) → IsUtf8 text → (s : SomeEnd (mark_length text) (drop (mark_length text) text)) → Ends s.rest → ((tokens : List Token) × IsCut text tokens) ⊎ ((code : FaultCode) × (place : ℕ) × IsFault text code place)
by_end text u s (done e) =
    let place : s.place ≡ length text = omega (arith, s.counted, ap length e, length-drop (mark_length text) text, mark_within text) in
    inl (s.tokens, record { utf8 = u; cut = subst (λ (r : List ℕ). IsCutTo text s.tokens (length text) r) e (subst (λ (p : ℕ). IsCutTo text s.tokens p s.rest) place s.cut) })
by_end text u s (stopped code f) = inr (code, s.place, inr (record { utf8 = u; tokens = s.tokens; rest = s.rest; cut = s.cut; faulty = f }))

pub some_cut : SomeCut
some_cut text = by (valid_or text)
  where
    by : IsUtf8 text ⊎ ((k : ℕ) × IsValidUpTo text k) → ((tokens : List Token) × IsCut text tokens) ⊎ ((code : FaultCode) × (place : ℕ) × IsFault text code place)
    by (inl u) = let s = some_end (length (drop (mark_length text) text)) (mark_length text) (drop (mark_length text) text) (omega arith) in by_end text u s s.ends
    by (inr (k, v)) = inr (NotUtf8, k, inl (refl, v))

pub only_cut : OneCut
only_cut text xs ys x y = (one_cut xs ys (mark_length text) (drop (mark_length text) text) (length text) (length text) [] [] x.cut y.cut (done refl) (done refl)).tokens

pub not_cut_and_fault : NotBoth
not_cut_and_fault text tokens code place x (inl (is, v)) = not_both text place x.utf8 v
not_cut_and_fault text tokens code place x (inr s) =
    let c = one_cut tokens s.tokens (mark_length text) (drop (mark_length text) text) (length text) place [] s.rest x.cut s.cut (done refl) (stopped code s.faulty) in
    fault_some code (subst (λ (r : List ℕ). IsFaulty code r) (sym c.rest_is) s.faulty)

same_fault : (c d : FaultCode) (rest : List ℕ) → IsFaulty c rest → IsFaulty d rest → c ≡ d
same_fault c d [] x y = absurd (fault_some c x)
same_fault c d (b ∷ bs) x y = one_fault c d b bs x y

pub only_fault : OneFault
only_fault text c d at place (inl (e, v)) (inl (f, w)) = (e ∙ sym f, one_place text at place v w)
only_fault text c d at place (inl (e, v)) (inr t) = absurd (not_both text at t.utf8 v)
only_fault text c d at place (inr s) (inl (f, w)) = absurd (not_both text place s.utf8 w)
only_fault text c d at place (inr s) (inr t) =
    let same = one_cut s.tokens t.tokens (mark_length text) (drop (mark_length text) text) at place s.rest t.rest s.cut t.cut (stopped c s.faulty) (stopped d t.faulty) in
    (same_fault c d t.rest (subst (λ (r : List ℕ). IsFaulty c r) same.rest_is s.faulty) t.faulty, same.place)
