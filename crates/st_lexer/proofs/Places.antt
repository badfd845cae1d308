-- Where tokens and faults stand: within the text.
use Rattle.std.proofs.Common.{◌≡◌, ℕ, zero, suc, ◌+◌, ◌<◌, ◌≤◌, inl, inr, List, [], ◌∷◌, ◌++◌, length, drop, ap, arith}
use Rattle.std.specs.List.{Contains}
use Rattle.std.proofs.lemmas.List.{length-append, length-drop}
use Rattle.token_grammar.specs.declared.token.TokenKind.{TokenKind}
use Rattle.token_grammar.specs.declared.token.Token.{Token}
use Rattle.st_lexer.specs.Texts.{IsText}
use Rattle.st_lexer.specs.Cut.{IsBlank, IsNext, CutTo, mark_length}
use Rattle.st_lexer.specs.Laws.{TokensIn, FaultIn}
use Rattle.st_lexer.proofs.LeadTexts.{text_some}
use Rattle.st_lexer.proofs.CutLaws.{mark_within}

-- bytes are neither lost nor won
pub record Counted (at : ℕ) (bytes : List ℕ) (place : ℕ) (rest : List ℕ) : Type 0 where
  pub further : at ≤ place
  pub counted : place + length rest ≡ at + length bytes

blank_counted : (at : ℕ) (bytes : List ℕ) (place : ℕ) (rest : List ℕ) → IsBlank at bytes place rest → Counted at bytes place rest
blank_counted at bytes place rest b = record {
  further = omega (arith, b.place_is);
  counted = omega (arith, b.place_is, ap length b.bytes_are, length-append b.white rest);
}

next_counted : (at : ℕ) (bytes : List ℕ) (t : Token) (rest : List ℕ) → IsNext at bytes t rest → Counted at bytes t.end rest
next_counted at bytes t rest n =
    let b = blank_counted at bytes t.start (n.text ++ rest) n.blank in
    record {
      further = omega (arith, b.further, n.end);
      counted = omega (arith, b.counted, n.end, length-append n.text rest);
    }

pub cut_counted : (ts : List Token) (at : ℕ) (bytes : List ℕ) (place : ℕ) (rest : List ℕ) → CutTo at bytes ts place rest → Counted at bytes place rest
cut_counted [] at bytes place rest c = blank_counted at bytes place rest c
cut_counted (t ∷ ts) at bytes place rest (more, n, c) =
    let one = next_counted at bytes t more n in
    let all = cut_counted ts t.end more place rest c in
    record {
      further = omega (arith, one.further, all.further);
      counted = omega (arith, one.counted, all.counted);
    }

some_bytes : (k : TokenKind) (text : List ℕ) → IsText k text → 0 < length text
some_bytes k [] is = absurd (text_some k is)
some_bytes k (b ∷ bs) is = omega arith

tokens_between : (ts : List Token) (at : ℕ) (bytes : List ℕ) (place : ℕ) (rest : List ℕ) → CutTo at bytes ts place rest → (t : Token) → Contains ts t → (t.start < t.end) × (t.end ≤ at + length bytes)
tokens_between [] at bytes place rest c t (k, less, is) = absurd (omega (arith, less))
tokens_between (u ∷ us) at bytes place rest (more, n, c) t (zero, less, same) =
    let one = next_counted at bytes u more n in
    let some = some_bytes u.kind n.text n.token.text_is in
    let first : u.start < u.end = omega (arith, n.end, some) in
    let last : u.end ≤ at + length bytes = omega (arith, one.counted) in
    (omega (arith, first, ap (λ (x : Token). x.start) same, ap (λ (x : Token). x.end) same), omega (arith, last, ap (λ (x : Token). x.end) same))
tokens_between (u ∷ us) at bytes place rest (more, n, c) t (suc k, less, is) =
    let one = next_counted at bytes u more n in
    let others = tokens_between us u.end more place rest c t (k, omega (arith, less), is) in
    (others.0, omega (arith, others.1, one.counted))

whole : (text : List ℕ) → mark_length text + length (drop (mark_length text) text) ≡ length text
whole text = omega (arith, length-drop (mark_length text) text, mark_within text)

pub tokens_in : TokensIn
tokens_in text tokens is t there =
    let b = tokens_between tokens (mark_length text) (drop (mark_length text) text) (length text) [] is.cut t there in
    record { some = b.0; within = omega (arith, b.1, whole text) }

pub fault_in : FaultIn
fault_in text code place (inl (e, v)) = omega (arith, v.short)
fault_in text code place (inr s) =
    let c = cut_counted s.tokens (mark_length text) (drop (mark_length text) text) place s.rest s.cut in
    omega (arith, c.counted, whole text)
