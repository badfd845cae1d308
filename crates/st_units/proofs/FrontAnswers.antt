-- What is read of a list of tokens from one of them on: the answers as numbers of its tokens, and
-- that there is one.
use Rattle.std.proofs.Common.{◌≡◌, ◌≢◌, ◌⊎◌, ℕ, zero, suc, ◌+◌, ◌-◌, ◌≤◌, Bool, true, false, cond, List, [], ◌∷◌, ◌++◌, length, drop, Result, Ok, Err, refl, sym, ap, subst, ◌∙◌, arith, inl, inr}
use Rattle.std.specs.List.{filter}
use Rattle.std.proofs.lemmas.List.{length-append, length-map}
use Rattle.iec_tables.specs.declared.fault.FaultCode.{FaultCode}
use Rattle.iec_tables.specs.declared.fault.FaultCode.TheVariants as fault
use Rattle.token_grammar.specs.declared.token.Token.{Token}
use Rattle.token_grammar.specs.declared.fault.ParseError.{ParseError}
use Rattle.token_grammar.specs.declared.fault.ParseError.TheVariants as error
use Rattle.token_grammar.specs.Texts.{Lexeme, lexeme, lexemes}
use Rattle.token_grammar.specs.Kept.{is_kept, words_of, place_at}
use Rattle.token_grammar.specs.Grammar.{Rule, lexemes_of, SpellsFront, IsGrammarFault, IsTooDeep, max_depth}
use Rattle.token_grammar.specs.steps.Parsers.{Input, Stop, Outcome, Parser}
use Rattle.token_grammar.proofs.Laws.{Told, Reason, input, Exact}
use Rattle.token_grammar.proofs.Front.{spells, is_fault, is_too_deep}
use Rattle.token_grammar.proofs.Forms.{Inner}
use Rattle.st_units.specs.Fronts.{words_from, IsAtKept, IsFront, IsFrontFault, IsFrontCause, RefusesFront, FrontLaws}
use Rattle.st_units.specs.steps.Found.{fault_of, kept_behind, FrontFound, FindsFront}
use Rattle.st_units.specs.declared.fault.ParseFault.{ParseFault}
use Rattle.st_units.proofs.FrontLaws.{one_rest_front, one_tree, front_not_fault, front_not_deep, one_fault, one_too_deep, fault_not_deep}

-- ---- tokens that are kept

-- two ends of one list that are equally long
same_end : (a b r s : List Lexeme) → a ++ r ≡ b ++ s → length r ≡ length s → r ≡ s
same_end [] [] r s e n = e
same_end [] (y ∷ b) r s e n = absurd (omega (arith, ap length e, length-append b s, n))
same_end (x ∷ a) [] r s e n = absurd (omega (arith, ap length e, length-append a r, n))
same_end (x ∷ a) (y ∷ b) r s e n = let rest : a ++ r ≡ b ++ s = cc in same_end a b r s rest n

abbrev IsEnd : List Lexeme → List Lexeme → Type 0
IsEnd all rest = (front : List Lexeme) × (all ≡ front ++ rest)

end_by : (text : List ℕ) (t : Token) (ts : List Token) (rest : List Lexeme) (b : Bool)
    → IsEnd (words_of text ts) rest
    → IsEnd (lexemes text (cond b (t ∷ filter is_kept ts) (filter is_kept ts))) rest
end_by text t ts rest true (front, e) = (
  lexeme text t ∷ front,
  ap
      (λ (ls : List Lexeme). lexeme text t ∷ ls) e,
)
end_by text t ts rest false h = h

-- from a later number on the lexemes are the last of those
words_end : (text : List ℕ) (tokens : List Token) (from to : ℕ) → from ≤ to
    → IsEnd (words_from text tokens from) (words_from text tokens to)
words_end text tokens zero zero le = ([], refl)
words_end text tokens (suc from) zero le = absurd (omega (arith, le))
words_end text [] zero (suc to) le = ([], refl)
words_end text (t ∷ ts) zero (suc to) le = end_by text t ts (words_from text ts to) (is_kept t)
    (words_end text ts zero to (omega arith))
words_end text [] (suc from) (suc to) le = ([], refl)
words_end text (t ∷ ts) (suc from) (suc to) le = words_end text ts from to (omega (arith, le))

fewer_by : (t : Token) (ts : List Token) (n : ℕ) (b : Bool) → n ≤ length (filter is_kept ts)
    → n ≤ length (cond b (t ∷ filter is_kept ts) (filter is_kept ts))
fewer_by t ts n true le = omega (arith, le)
fewer_by t ts n false le = le

fewer : (tokens : List Token) (n : ℕ) → kept_behind tokens n ≤ length (filter is_kept tokens)
fewer tokens zero = omega arith
fewer [] (suc n) = omega arith
fewer (t ∷ ts) (suc n) = fewer_by t ts (kept_behind ts n) (is_kept t) (fewer ts n)

first_counts : (t : Token) (ts : List Token) (n : ℕ) → is_kept t ≡ true
    → length (filter is_kept (t ∷ ts)) ≡ kept_behind ts n → ⊥
first_counts t ts n is e =
    let all : length (filter is_kept (t ∷ ts)) ≡ suc (length (filter is_kept ts)) = rw is refl in
    omega (arith, all, e, fewer ts n)

-- the number of the next token that is kept is known from how many follow
one_number : (tokens : List Token) (a b : ℕ) → a ≤ length tokens → b ≤ length tokens
    → IsAtKept (drop a tokens) → IsAtKept (drop b tokens)
    → kept_behind tokens a ≡ kept_behind tokens b → a ≡ b
one_number tokens zero zero in_a in_b at_a at_b e = refl
one_number [] zero (suc b) in_a in_b at_a at_b e = absurd (omega (arith, in_b))
one_number [] (suc a) b in_a in_b at_a at_b e = absurd (omega (arith, in_a))
one_number (t ∷ ts) zero (suc b) in_a in_b at_a at_b e = absurd (first_counts t ts b at_a e)
one_number (t ∷ ts) (suc a) zero in_a in_b at_a at_b e = absurd (first_counts t ts a at_b (sym e))
one_number (t ∷ ts) (suc a) (suc b) in_a in_b at_a at_b e =
    ap suc (one_number ts a b (omega (arith, in_a)) (omega (arith, in_b)) at_a at_b e)

length_words : (text : List ℕ) (tokens : List Token) (n : ℕ)
    → length (words_from text tokens n) ≡ kept_behind tokens n
length_words text tokens n = length-map (filter is_kept (drop n tokens)) (lexeme text)

-- behind each number of those that are kept there is a next one, or the end
abbrev Behind : List Token → ℕ → ℕ → Type 0
Behind tokens from n = (to : ℕ) × (from ≤ to) × (to ≤ length tokens) × IsAtKept (drop to tokens)
    × (kept_behind tokens to ≡ n)

one_later : (t : Token) (ts : List Token) (from n : ℕ) → Behind ts from n
    → Behind (t ∷ ts) (suc from) n
one_later t ts from n (to, later, within, next, count) =
    (suc to, omega (arith, later), omega (arith, within), next, count)

from_start : (t : Token) (ts : List Token) (from n : ℕ) → Behind (t ∷ ts) (suc from) n
    → Behind (t ∷ ts) zero n
from_start t ts from n (to, later, within, next, count) = (to, omega arith, within, next, count)

first_by : (t : Token) (ts : List Token) (n : ℕ) (b : Bool) → is_kept t ≡ b
    → n ≤ length (cond b (t ∷ filter is_kept ts) (filter is_kept ts))
    → ((m : ℕ) → m ≤ length (filter is_kept ts) → Behind ts zero m) → Behind (t ∷ ts) zero n
first_by t ts n false is le rest = from_start t ts zero n (one_later t ts zero n (rest n le))
first_by t ts n true is le rest = split_at (le_or n (length (filter is_kept ts)))
  where
    le_or : (a b : ℕ) → (a ≤ b) ⊎ (suc b ≤ a)
    le_or zero b = inl (omega arith)
    le_or (suc a) zero = inr (omega arith)
    le_or (suc a) (suc b) =
        elim (le_or a b) [ inl l ↦ inl (omega (arith, l)) | inr l ↦ inr (omega (arith, l)) ]

    split_at : (n ≤ length (filter is_kept ts)) ⊎ (suc (length (filter is_kept ts)) ≤ n)
        → Behind (t ∷ ts) zero n
    split_at (inl short) = from_start t ts zero n (one_later t ts zero n (rest n short))
    split_at (inr all) =
        let whole : length (filter is_kept (t ∷ ts)) ≡ suc (length (filter is_kept ts)) =
        rw is refl in
        (zero, omega arith, omega arith, is, omega (arith, whole, all, le))

number_behind : (tokens : List Token) (from n : ℕ) → from ≤ length tokens
    → n ≤ kept_behind tokens from → Behind tokens from n
number_behind [] zero n le few = (zero, omega arith, omega arith, tt, omega (arith, few))
number_behind [] (suc from) n le few = absurd (omega (arith, le))
number_behind (t ∷ ts) zero n le few = first_by t ts n (is_kept t) refl few
    (λ m short. number_behind ts zero m (omega arith) short)
number_behind (t ∷ ts) (suc from) n le few = one_later t ts from n
    (number_behind ts from n (omega (arith, le)) few)

-- ---- what is answered

abbrev err_of : {A : Type 0} → Stop → Outcome A
err_of s = Err s

module _ {A : Type 0} {V : ℕ → Type 0} {p : Parser A} {L : Rule A} {more : List Lexeme → Bool}
    (h : Exact V p L more) (open_end : more [] ≡ false) where
  -- no more is left than there was
  no_longer : (outer : ℕ) → V outer → (words : List Lexeme) (x : A) (o : Input)
      → p (input 0 outer words) ≡ Ok (x, o) → length o.rest ≤ length words
  no_longer outer v words x o e =
      let s = spells h open_end (input 0 outer words) v x o e in
      omega (arith, ap length s.tokens, length-append (lexemes_of s.word) o.rest)

  front_read : (outer : ℕ) → V outer → (text : List ℕ) (tokens : List Token) (from : ℕ) (x : A)
      (o : Input) → p (input 0 outer (words_from text tokens from)) ≡ Ok (x, o)
      → (to : ℕ) → from ≤ to → to ≤ length tokens → IsAtKept (drop to tokens)
      → kept_behind tokens from ≡ (kept_behind tokens from - length o.rest) + kept_behind tokens
      to → IsFront L outer text tokens from x to
  front_read outer v text tokens from x o e to later within next count =
      let s = spells h open_end (input 0 outer (words_from text tokens from)) v x o e in
      let end = words_end text tokens from to later in
      let short = no_longer outer v (words_from text tokens from) x o e in
      let equal : length o.rest ≡ length (words_from text tokens to) =
      omega (arith, count, short, length_words text tokens from, length_words text tokens to) in
      let rest : o.rest ≡ words_from text tokens to =
      same_end (lexemes_of s.word) end.0 o.rest (words_from text tokens to)
      (sym s.tokens ∙ end.1) equal in
      record {
        spelled = subst (SpellsFront L outer (words_from text tokens from) x) rest s;
        later =
            later;
        within = within;
        next = next;
      }

  front_refused : (outer : ℕ) → V outer → (text : List ℕ) (tokens : List Token) (from : ℕ)
      (code : ParseError) (rest : List Lexeme)
      → (code ≢ error.Memory → p (input 0 outer (words_from text tokens from))
      ≡ Err (record { code = code; rest = rest }))
      → RefusesFront L outer text tokens from (fault_of code (place_at text rest))
  front_refused outer v text tokens from error.Memory rest e = tt
  front_refused outer v text tokens from error.Grammar rest e =
      record {
        rest = rest;
        cause = is_fault h open_end
            (input 0 outer (words_from text tokens from)) v rest (e (λ is. cc));
        place = refl;
      }
  front_refused outer v text tokens from error.TooDeep rest e =
      record {
        rest = rest;
        cause = is_too_deep h open_end
            (input 0 outer (words_from text tokens from)) v rest (e (λ is. cc));
        place = refl;
      }

-- ---- laws

abbrev Split : {A : Type 0} → Rule A → ℕ → List Lexeme → List Lexeme → FaultCode → Type 0
Split L outer words rest code =
    ((code ≡ fault.Grammar) × IsGrammarFault L outer words rest)
    ⊎ ((code ≡ fault.TooDeep) × IsTooDeep L outer words rest)

split : {A : Type 0} (L : Rule A) (outer : ℕ) (words rest : List Lexeme) (code : FaultCode)
    → IsFrontCause L outer words rest code → Split L outer words rest code
split L outer words rest fault.NotUtf8 h = absurd h
split L outer words rest fault.BadByte h = absurd h
split L outer words rest fault.OpenComment h = absurd h
split L outer words rest fault.BadNumber h = absurd h
split L outer words rest fault.BadName h = absurd h
split L outer words rest fault.Grammar h = inl (refl, h)
split L outer words rest fault.TooDeep h = inr (refl, h)

shallow : (outer : ℕ) → outer ≤ max_depth → Inner 257 outer
shallow outer le = (omega arith, le)

module _ {A : Type 0} {p : Parser A} {L : Rule A} {more : List Lexeme → Bool}
    (h : Exact (Inner 257) p L more) (open_end : more [] ≡ false) where
  -- what a front is parsed to, in the words of the grammar
  pub finds : (outer : ℕ) → outer ≤ max_depth → (text : List ℕ) (tokens : List Token) (from : ℕ)
      (result : Result (A × ℕ) ParseFault)
      → FrontFound p outer text tokens from result → FindsFront L outer text tokens from result
  finds outer le text tokens from (Ok read) (left, e, b) =
      front_read h open_end outer (shallow outer le) text tokens from read.0 left e read.1 b.later
      b.within b.next b.count
  finds outer le text tokens from (Err fault) (error, rest, e, is) =
      subst (RefusesFront L outer text tokens from) (sym is)
      (front_refused h open_end outer (shallow outer le) text tokens from error rest e)

  -- there is an answer
  abbrev HasFront : ℕ → List ℕ → List Token → ℕ → Type 0
  HasFront outer text tokens from =
      ((x : A) × (to : ℕ) × IsFront L outer text tokens from x to)
      ⊎ ((code : FaultCode) × (at : ℕ) × IsFrontFault L outer text tokens from code at)

  some_stopped : (outer : ℕ) → Inner 257 outer → (text : List ℕ) (tokens : List Token) (from : ℕ)
      (s : Stop) (code : ParseError)
      → p (input 0 outer (words_from text tokens from)) ≡ err_of s → s.code ≡ code
      → HasFront outer text tokens from
  some_stopped outer v text tokens from s error.Memory e is =
      let start = input 0 outer (words_from text tokens from) in
      let told = subst (Told L start) e (h.told start v) in
      absurd (subst (λ (c : ParseError). Reason c told.more s.rest) is told.reason)
  some_stopped outer v text tokens from s error.Grammar e is =
      let e2 = e ∙ ap (λ (c : ParseError). err_of (record { code = c; rest = s.rest })) is in
      inr (
        fault.Grammar,
        place_at text s.rest,
        record {
          rest = s.rest;
          cause = is_fault h open_end
              (input 0 outer (words_from text tokens from)) v s.rest e2;
          place = refl;
        },
      )
  some_stopped outer v text tokens from s error.TooDeep e is =
      let e2 = e ∙ ap (λ (c : ParseError). err_of (record { code = c; rest = s.rest })) is in
      inr (
        fault.TooDeep,
        place_at text s.rest,
        record {
          rest = s.rest;
          cause = is_too_deep h open_end
              (input 0 outer (words_from text tokens from)) v s.rest e2;
          place = refl;
        },
      )

  some_by : (outer : ℕ) → Inner 257 outer → (text : List ℕ) (tokens : List Token) (from : ℕ)
      → from ≤ length tokens
      → (out : Outcome A) → p (input 0 outer (words_from text tokens from)) ≡ out
      → HasFront outer text tokens from
  some_by outer v text tokens from le (Ok (x, o)) e =
      let short = no_longer h open_end outer v (words_from text tokens from) x o e in
      let (to, later, within, next, count) = number_behind tokens from (length o.rest) le
      (omega (arith, short, length_words text tokens from)) in
      inl (
        x,
        to,
        front_read h open_end outer v text tokens from x o e to later within next
            (omega (arith, count, short, length_words text tokens from)),
      )
  some_by outer v text tokens from le (Err s) e =
      some_stopped outer v text tokens from s s.code e refl

  one_front : (outer : ℕ) → outer ≤ max_depth → (text : List ℕ) (tokens : List Token) (from : ℕ)
      (x y : A) (to other : ℕ)
      → IsFront L outer text tokens from x to → IsFront L outer text tokens from y other → (x ≡ y)
      × (to ≡ other)
  one_front outer le text tokens from x y to other a b =
      let words = words_from text tokens from in
      let v = shallow outer le in
      let rest : words_from text tokens to ≡ words_from text tokens other =
      one_rest_front h open_end outer v words (words_from text tokens to)
      (words_from text tokens other) x y a.spelled b.spelled in
      let count : kept_behind tokens to ≡ kept_behind tokens other =
      sym (length_words text tokens to) ∙ ap length rest ∙ length_words text tokens other in (
        one_tree h open_end outer v words (words_from text tokens to)
            (words_from text tokens other) x y a.spelled b.spelled,
        one_number tokens to other a.within b.within a.next b.next count,
      )

  same_by : (outer : ℕ) → Inner 257 outer → (words r s : List Lexeme) (code other : FaultCode)
      → Split L outer words r code → Split L outer words s other → (code ≡ other) × (r ≡ s)
  same_by outer v words r s code other (inl (e, a)) (inl (f, b)) =
      (e ∙ sym f, one_fault h open_end outer v words r s a b)
  same_by outer v words r s code other (inl (e, a)) (inr (f, b)) =
      absurd (fault_not_deep h open_end outer v words r s a b)
  same_by outer v words r s code other (inr (e, a)) (inl (f, b)) =
      absurd (fault_not_deep h open_end outer v words s r b a)
  same_by outer v words r s code other (inr (e, a)) (inr (f, b)) =
      (e ∙ sym f, one_too_deep h open_end outer v words r s a b)

  none_by : (outer : ℕ) → Inner 257 outer → (words r s : List Lexeme) (code : FaultCode) (x : A)
      → SpellsFront L outer words x r → Split L outer words s code → ⊥
  none_by outer v words r s code x a (inl (e, b)) =
      front_not_fault h open_end outer v words r s x a b
  none_by outer v words r s code x a (inr (e, b)) =
      front_not_deep h open_end outer v words r s x a b

  pub front_laws : FrontLaws L
  front_laws = record {
    some = λ outer le text tokens from within.
        some_by outer (shallow outer le) text tokens from within
        (p (input 0 outer (words_from text tokens from))) refl;
    one = one_front;
    one_fault = λ outer le text tokens from code other at place a b.
        let words = words_from text tokens from in
        let same = same_by outer (shallow outer le) words a.rest b.rest code other
        (split L outer words a.rest code a.cause) (split L outer words b.rest other b.cause) in
        (same.0, a.place ∙ ap (place_at text) same.1 ∙ sym b.place);
    none_of_both = λ outer le text tokens from x to code at a b.
        let words = words_from text tokens from in
        none_by outer (shallow outer le) words (words_from text tokens to) b.rest code x a.spelled
        (split L outer words b.rest code b.cause);
  }

-- ---- what the code holds: the tokens that it kept, and how many were there and are left

pub found_ok : {A : Type 0} (p : Parser A) (outer : ℕ) (text : List ℕ) (tokens slice : List Token)
    (from : ℕ) (x : A) (o : Input) (kept : List Token)
    → slice ≡ tokens → kept ≡ filter is_kept (drop from tokens)
    → p (input 0 outer (lexemes text kept)) ≡ Ok (x, o)
    → (all left read : ℕ) → all ≡ length kept → left ≡ length o.rest → read ≡ all - left
    → (to : ℕ) → from ≤ to → to ≤ length slice → IsAtKept (drop to slice)
    → kept_behind slice from ≡ read + kept_behind slice to
    → FrontFound p outer text tokens from (Ok (x, to))
found_ok p outer text tokens slice from x o kept same is e all left read all_is left_is read_is to
    later within next count =
    let all_kept : all ≡ kept_behind tokens from = all_is ∙ ap length is in
    let counted : kept_behind tokens from ≡ read + kept_behind tokens to =
    subst (λ (ts : List Token). kept_behind ts from ≡ read + kept_behind ts to) same count in (
      o,
      subst (λ (ts : List Token). p (input 0 outer (lexemes text ts)) ≡ Ok (x, o)) is e,
      record {
        later = later;
        within = subst (λ (ts : List Token). to ≤ length ts) same within;
        next = subst (λ (ts : List Token). IsAtKept (drop to ts)) same next;
        count = omega (arith, counted, all_kept, left_is, read_is);
      },
    )

pub found_err : {A : Type 0} (p : Parser A) (outer : ℕ) (text : List ℕ) (tokens : List Token)
    (from : ℕ) (kept : List Token) (why : ParseError) (rest : List Lexeme) (fault : ParseFault)
    → kept ≡ filter is_kept (drop from tokens)
    → (why ≢ error.Memory → p (input 0 outer (lexemes text kept))
    ≡ Err (record { code = why; rest = rest }))
    → fault ≡ fault_of why (place_at text rest) → FrontFound p outer text tokens from (Err fault)
found_err p outer text tokens from kept why rest fault is e same = (
  why,
  rest,
  λ some. subst (λ (ts : List Token). p (input 0 outer (lexemes text ts))
      ≡ Err (record { code = why; rest = rest })) is (e some),
  same,
)
