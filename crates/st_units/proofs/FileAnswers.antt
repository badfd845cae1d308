-- What the parser of files answers, and that no two answers are true of one text.
use Rattle.std.proofs.Common.{◌≡◌, ◌⊎◌, ℕ, zero, suc, ◌≤◌, Bool, true, false, cond, List, [], ◌∷◌, ◌++◌, length, Result, Err, refl, sym, ap, ◌∙◌, arith, inl, inr}
use Rattle.std.specs.List.{Contains, filter}
use Rattle.iec_tables.specs.declared.fault.FaultCode.{FaultCode}
use Rattle.iec_tables.specs.declared.fault.FaultCode.TheVariants as fault
use Rattle.token_grammar.specs.declared.token.Token.{Token}
use Rattle.token_grammar.specs.declared.fault.ParseError.{ParseError}
use Rattle.token_grammar.specs.declared.fault.ParseError.TheVariants as error
use Rattle.token_grammar.specs.Texts.{Lexeme, lexeme, lexemes}
use Rattle.token_grammar.specs.Kept.{is_kept, words_of, place_at}
use Rattle.token_grammar.specs.Grammar.{lexemes_of, Spells, IsTooDeep, IsWrong}
use Rattle.token_grammar.specs.steps.Parsers.{Input, Reads}
use Rattle.token_grammar.proofs.Laws.{input}
use Rattle.token_grammar.proofs.Whole.{one_spelled, not_deep, one_wrong, one_deep, not_both}
use Rattle.st_lexer.specs.Placed.{IsIn}
use Rattle.st_tree.specs.declared.file.FilePart.{FilePart}
use Rattle.st_expr.proofs.Lists.{Here}
use Rattle.st_units.specs.Grammar.{file}
use Rattle.st_units.specs.Files.{IsFile, IsFileFault, IsFileCause}
use Rattle.st_units.specs.FileLaws.{SomeFile, OneFile, OneFileFault, NoneOfBoth, FaultIn}
use Rattle.st_units.specs.steps.Found.{PartsFound, fault_of}
use Rattle.st_units.specs.steps.Parse as p
use Rattle.st_units.proofs.UnitForms.{exact_parts}
use Rattle.st_units.proofs.FileForms.{IsAnswer, answered_by, HasAnswer, some_answer}

pub answered : (ts : List Lexeme) (result : Result (List FilePart) ParseError) (new : Input)
    → Reads (p.file (input 0 0 ts)) result new → IsAnswer file ts result new.rest
unfolding p.file
answered ts result new reads = answered_by exact_parts refl ts result new reads

pub refused : (text : List ℕ) (tokens : List Token) (e : ParseError) (rest : List Lexeme)
    → IsAnswer file (words_of text tokens) (Err e) rest
    → PartsFound text tokens (Err (fault_of e (place_at text rest)))
refused text tokens error.Memory rest h = tt
refused text tokens error.Grammar rest h = record { rest = rest; cause = h; place = refl }
refused text tokens error.TooDeep rest h = record { rest = rest; cause = h; place = refl }

-- ---- laws

here : Here 0
here = (omega arith, omega arith)

abbrev Split : List Lexeme → List Lexeme → FaultCode → Type 0
Split ts rest code = ((code ≡ fault.Grammar) × IsWrong file ts rest)
    ⊎ ((code ≡ fault.TooDeep) × IsTooDeep file 0 ts rest)

split : (ts rest : List Lexeme) (code : FaultCode) → IsFileCause ts rest code → Split ts rest code
split ts rest fault.NotUtf8 h = absurd h
split ts rest fault.BadByte h = absurd h
split ts rest fault.OpenComment h = absurd h
split ts rest fault.BadNumber h = absurd h
split ts rest fault.BadName h = absurd h
split ts rest fault.Grammar h = inl (refl, h)
split ts rest fault.TooDeep h = inr (refl, h)

pub some_file : SomeFile
some_file text tokens = by (some_answer exact_parts refl (words_of text tokens)) where
  by : HasAnswer exact_parts refl (words_of text tokens)
      → ((parts : List FilePart) × IsFile text tokens parts)
      ⊎ ((code : FaultCode) × (at : ℕ) × IsFileFault text tokens code at)
  by (inl s) = inl s
  by (inr (inl b)) = inr (
    fault.Grammar,
    place_at text b.0,
    record { rest = b.0; cause = b.1; place = refl },
  )
  by (inr (inr d)) = inr (
    fault.TooDeep,
    place_at text d.0,
    record { rest = d.0; cause = d.1; place = refl },
  )

pub one_file : OneFile
one_file text tokens parts other a b = one_spelled exact_parts refl here
    (words_of text tokens) parts other a b

same_by : (ts r s : List Lexeme) (code other : FaultCode) → Split ts r code → Split ts s other
    → (code ≡ other) × (r ≡ s)
same_by ts r s code other (inl (e, a)) (inl (f, b)) =
    (e ∙ sym f, one_wrong exact_parts refl here ts r s a b)
same_by ts r s code other (inl (e, a)) (inr (f, b)) =
    absurd (not_both exact_parts refl here ts r s a b)
same_by ts r s code other (inr (e, a)) (inl (f, b)) =
    absurd (not_both exact_parts refl here ts s r b a)
same_by ts r s code other (inr (e, a)) (inr (f, b)) =
    (e ∙ sym f, one_deep exact_parts refl here ts r s a b)

pub one_file_fault : OneFileFault
one_file_fault text tokens code other at place a b =
    let ts = words_of text tokens in
    let same = same_by ts a.rest b.rest code other (split ts a.rest code a.cause)
    (split ts b.rest other b.cause) in
    (same.0, a.place ∙ ap (place_at text) same.1 ∙ sym b.place)

none_by : (ts rest : List Lexeme) (code : FaultCode) (parts : List FilePart) → Spells file ts parts
    → Split ts rest code → ⊥
none_by ts rest code parts s (inl (e, a)) = a.unspelled parts s
none_by ts rest code parts s (inr (e, a)) = not_deep exact_parts refl here ts rest parts s a

pub none_of_both : NoneOfBoth
none_of_both text tokens parts code at is h = none_by (words_of text tokens) h.rest code parts is
    (split (words_of text tokens) h.rest code h.cause)

-- ---- places

later_in : {X : Type 0} (x y : X) (xs : List X) → Contains xs y → Contains (x ∷ xs) y
later_in x y xs c = (suc c.0, omega arith, c.2)

kept_by : (t : Token) (ts : List Token) (u : Token) (b : Bool)
    → Contains (cond b (t ∷ filter is_kept ts) (filter is_kept ts)) u
    → (Contains (filter is_kept ts) u → Contains ts u) → Contains (t ∷ ts) u
kept_by t ts u true (zero, lt, e) go = (zero, omega arith, e)
kept_by t ts u true (suc k, lt, e) go = let c = go (k, omega (arith, lt), e) in
    (suc c.0, omega (arith, c.1), c.2)
kept_by t ts u false h go = let c = go h in (suc c.0, omega (arith, c.1), c.2)

kept_among : (tokens : List Token) (t : Token) → Contains (filter is_kept tokens) t
    → Contains tokens t
kept_among [] t h = h
kept_among (u ∷ us) t h = kept_by u us t (is_kept u) h (kept_among us t)

-- a lexeme that is left is one of the text's
token_left : (text : List ℕ) (tokens : List Token) (front : List Lexeme) (l : Lexeme)
    (rest : List Lexeme) → lexemes text tokens ≡ front ++ l ∷ rest → (t : Token) × Contains tokens t
    × (lexeme text t ≡ l)
token_left text [] [] l rest e = absurd cc
token_left text [] (f ∷ front) l rest e = absurd cc
token_left text (t ∷ ts) [] l rest e = (t, (zero, omega arith, refl), cc)
token_left text (t ∷ ts) (f ∷ front) l rest e =
    let tails : lexemes text ts ≡ front ++ l ∷ rest = cc in
    let k = token_left text ts front l rest tails in
    (k.0, later_in t k.0 ts k.1, k.2)

left_within : (text : List ℕ) (tokens : List Token) (front rest : List Lexeme)
    → ((t : Token) → Contains tokens t → IsIn text t) → lexemes text tokens ≡ front ++ rest
    → place_at text rest ≤ length text
left_within text tokens front [] h e = omega arith
left_within text tokens front (l ∷ rest) h e =
    let k = token_left text tokens front l rest e in
    let i = h k.0 k.1 in
    let same : k.0.start ≡ l.start = ap (λ (m : Lexeme). m.start) k.2 in
    omega (arith, i.some, i.within, same)

front_of : (ts rest : List Lexeme) (code : FaultCode) → Split ts rest code → (front : List Lexeme)
    × (ts ≡ front ++ rest)
front_of ts rest code (inl (e, a)) = (lexemes_of a.word, a.tokens)
front_of ts rest code (inr (e, a)) = (lexemes_of a.word, a.tokens)

pub fault_in : FaultIn
fault_in text tokens code at h is =
    let f = front_of (words_of text tokens) is.rest code
    (split (words_of text tokens) is.rest code is.cause) in
    let le = left_within text (filter is_kept tokens) f.0 is.rest
    (λ t among. h t (kept_among tokens t among)) f.1 in
    omega (arith, le, is.place)
