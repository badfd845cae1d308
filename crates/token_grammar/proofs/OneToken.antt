-- One lexeme.
use Rattle.std.proofs.Common.{◌≡◌, ℕ, ◌+◌, Bool, true, false, cond, ltb, List, [], ◌∷◌, ◌++◌, length, Ok, Err, refl, ap, arith, inl}
use Rattle.std.proofs.lemmas.Bool.{ltb-false, ltb-true, eq-eqb}
use Rattle.std.proofs.lemmas.List.{append_cancel_right, length-append}
use Rattle.token_grammar.specs.declared.token.TokenKind.{TokenKind}
use Rattle.token_grammar.specs.Texts.{Lexeme}
use Rattle.token_grammar.specs.Kinds.{place_of, same_kind, is_kind}
use Rattle.token_grammar.specs.declared.fault.ParseError.TheVariants.{Grammar, TooDeep}
use Rattle.token_grammar.specs.steps.Parsers.{Input, take_in, take_as}
use Rattle.token_grammar.specs.Grammar.{Word, lexemes_of, max_depth, token_as}
use Rattle.token_grammar.proofs.Laws.{input, Told, gate, Same, Cut, Exact, at_end, cut_err, none_above}

abbrev pub never : List Lexeme → Bool
never ts = false

abbrev pub a_token : TokenKind → Lexeme
a_token k = record { kind = k; start = 0; end = 0; bytes = []; behind = [] }

pub same_kind_refl : (k : TokenKind) → same_kind k k ≡ true
same_kind_refl k = eq-eqb (place_of k) (place_of k) refl

-- nothing before the rest is the whole rest
pub nothing_before : (v : List Lexeme) (t : Lexeme) (r : List Lexeme) → r ≡ v ++ t ∷ r → ⊥
nothing_before v t r e = let n = ap length e in omega (arith, n, length-append v (t ∷ r))

-- a test, and a lexeme that passes it
module _ (test : Lexeme → Bool) (a : Lexeme) (passes : test a ≡ true) where
  told_by : (own more : ℕ) (i : Input) (t : Lexeme) (ts : List Lexeme) (b c : Bool) → test t ≡ b
      → ltb max_depth (i.depth + own) ≡ c → i.rest ≡ t ∷ ts
      → Told (token_as test own more) i
      (cond b (cond c (Err (record { code = TooDeep; rest = t ∷ ts }))
      (Ok (t, record { rest = ts; last = t.end; depth = i.depth + more })))
      (Err (record { code = Grammar; rest = t ∷ ts })))
  told_by own more i t ts true true is deep e = record {
    word = [];
    more = (t, i.depth + own) ∷ [];
    value = t;
    depth = i.depth + more;
    tokens = e;
    spelled = (refl, is, refl);
    within = tt;
    reason = (refl, ltb-true _ _ deep);
  }
  told_by own more i t ts true false is deep e = record {
    word = (t, i.depth + own) ∷ [];
    tokens = e;
    spelled = (refl, is, refl);
    within = (ltb-false _ _ deep, tt);
    last = refl;
  }
  told_by own more i t ts false c is deep e = record {
    word = [];
    more = (a, i.depth + own) ∷ [];
    value = a;
    depth =
        i.depth + more;
    tokens = e;
    spelled = (refl, passes, refl);
    within = tt;
    reason = tt;
  }

  told_in : (own more : ℕ) (i : Input) (ts : List Lexeme) → i.rest ≡ ts
      → Told (token_as test own more) i (take_in test own more i.depth ts)
  told_in own more i [] e = record {
    word = [];
    more = (a, i.depth + own) ∷ [];
    value = a;
    depth = i.depth + more;
    tokens = e;
    spelled = (refl, passes, refl);
    within = tt;
    reason = tt;
  }
  told_in own more i (t ∷ ts) e =
      told_by own more i t ts (test t) (ltb max_depth (i.depth + own)) refl refl e

  complete_token : (own more : ℕ) (d : ℕ) (w : Word) (x : Lexeme) (e : ℕ)
      → token_as test own more d w x e → (last : ℕ) (rest : List Lexeme)
      → take_as test own more (input last d (lexemes_of w ++ rest)) ≡ gate w rest last x e
  complete_token own more d w x e (eq, is, after) last rest = rw (eq, after, is) refl

  same_by : (own more d : ℕ) (z : Lexeme) (u : List Lexeme) (t : Lexeme) (r1 r2 : List Lexeme)
      (b c : Bool)
      → Same t r1 r2 (cond b (cond c (Err (record { code = TooDeep; rest = z ∷ (u ++ t ∷ r1) }))
      (Ok (z, record { rest = u ++ t ∷ r1; last = z.end; depth = d + more })))
      (Err (record { code = Grammar; rest = z ∷ (u ++ t ∷ r1) })))
      (cond b (cond c (Err (record { code = TooDeep; rest = z ∷ (u ++ t ∷ r2) }))
      (Ok (z, record { rest = u ++ t ∷ r2; last = z.end; depth = d + more })))
      (Err (record { code = Grammar; rest = z ∷ (u ++ t ∷ r2) })))
  same_by own more d z u t r1 r2 true true =
      λ v e. ap (λ (x : List Lexeme). Err (record { code = TooDeep; rest = x ++ t ∷ r2 }))
      (append_cancel_right (z ∷ u) v (t ∷ r1) e)
  same_by own more d z u t r1 r2 true false =
      λ v e. ap (λ (x : List Lexeme). Ok (
        z,
        record {
          rest = x ++ t ∷ r2;
          last = z.end;
          depth = d + more;
        },
      )) (append_cancel_right u v (t ∷ r1) e)
  same_by own more d z u t r1 r2 false c =
      λ v e. ap (λ (x : List Lexeme). Err (record { code = Grammar; rest = x ++ t ∷ r2 }))
      (append_cancel_right (z ∷ u) v (t ∷ r1) e)

  same_first : (own more d : ℕ) (t : Lexeme) (r1 r2 : List Lexeme) (b c : Bool)
      → Same t r1 r2 (cond b (cond c (Err (record { code = TooDeep; rest = t ∷ r1 }))
      (Ok (t, record { rest = r1; last = t.end; depth = d + more })))
      (Err (record { code = Grammar; rest = t ∷ r1 })))
      (cond b (cond c (Err (record { code = TooDeep; rest = t ∷ r2 }))
      (Ok (t, record { rest = r2; last = t.end; depth = d + more })))
      (Err (record { code = Grammar; rest = t ∷ r2 })))
  same_first own more d t r1 r2 true true =
      λ v e. ap (λ (x : List Lexeme). Err (record { code = TooDeep; rest = x ++ t ∷ r2 }))
      (append_cancel_right [] v (t ∷ r1) e)
  same_first own more d t r1 r2 true false = λ v e. absurd (nothing_before v t r1 e)
  same_first own more d t r1 r2 false c =
      λ v e. ap (λ (x : List Lexeme). Err (record { code = Grammar; rest = x ++ t ∷ r2 }))
      (append_cancel_right [] v (t ∷ r1) e)

  local_token : (own more last d : ℕ) (u : List Lexeme) (t : Lexeme) (r1 r2 : List Lexeme)
      → Same t r1 r2 (take_as test own more (input last d (u ++ t ∷ r1)))
      (take_as test own more (input last d (u ++ t ∷ r2)))
  local_token own more last d [] t r1 r2 =
      same_first own more d t r1 r2 (test t) (ltb max_depth (d + own))
  local_token own more last d (z ∷ u) t r1 r2 =
      same_by own more d z u t r1 r2 (test z) (ltb max_depth (d + own))

  cut_by : (own more d : ℕ) (z : Lexeme) (u : List Lexeme) (t : Lexeme) (r : List Lexeme)
      (b c : Bool)
      → Cut t r (cond b (cond c (Err (record { code = TooDeep; rest = z ∷ (u ++ t ∷ r) }))
      (Ok (z, record { rest = u ++ t ∷ r; last = z.end; depth = d + more })))
      (Err (record { code = Grammar; rest = z ∷ (u ++ t ∷ r) })))
      (cond b (cond c (Err (record { code = TooDeep; rest = z ∷ u }))
      (Ok (z, record { rest = u; last = z.end; depth = d + more })))
      (Err (record { code = Grammar; rest = z ∷ u })))
  cut_by own more d z u t r true true = λ code e. absurd (none_above z u (t ∷ r) e)
  cut_by own more d z u t r true false =
      λ e. inl (ap
      (λ (x : List Lexeme). Ok (z, record { rest = x; last = z.end; depth = d + more }))
      (append_cancel_right u [] (t ∷ r) e))
  cut_by own more d z u t r false c = λ code e. absurd (none_above z u (t ∷ r) e)

  cut_first : (own more d : ℕ) (t : Lexeme) (r : List Lexeme) (b c : Bool)
      → Cut t r (cond b (cond c (Err (record { code = TooDeep; rest = t ∷ r }))
      (Ok (t, record { rest = r; last = t.end; depth = d + more })))
      (Err (record { code = Grammar; rest = t ∷ r }))) (Err at_end)
  cut_first own more d t r b c = cut_err t r _

  cut_token : (own more last d : ℕ) (u : List Lexeme) (t : Lexeme) (r : List Lexeme)
      → Cut t r (take_as test own more (input last d (u ++ t ∷ r)))
      (take_as test own more (input last d u))
  cut_token own more last d [] t r = cut_first own more d t r (test t) (ltb max_depth (d + own))
  cut_token own more last d (z ∷ u) t r =
      cut_by own more d z u t r (test z) (ltb max_depth (d + own))

  pub exact_that : {V : ℕ → Type 0} {more : List Lexeme → Bool} (own rise : ℕ)
      → Exact V (take_as test own rise) (token_as test own rise) more
  exact_that own rise = record {
    told = λ i v. told_in own rise i i.rest refl;
    complete = λ d w x e v h last rest ends_here. complete_token own rise d w x e h last rest;
    local = λ last d v u t r1 r2. local_token own rise last d u t r1 r2;
    cut = λ last d v u t r. cut_token own rise last d u t r;
    some = λ d. record {
      word = (a, d + own) ∷ [];
      value = a;
      depth = d + rise;
      spelled = (refl, passes, refl);
    };
    rises = λ d w x e (eq, is, after). omega (arith, after);
  }

pub exact_token : {V : ℕ → Type 0} {more : List Lexeme → Bool} (k : TokenKind) (own rise : ℕ)
    → Exact V (take_as (is_kind k) own rise) (token_as (is_kind k) own rise) more
exact_token k own rise = exact_that (is_kind k) (a_token k) (same_kind_refl k) own rise
