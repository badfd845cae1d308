-- The comments of a text stand in its order, and their numbers don't ask in which order the nodes
-- stand.
use Rattle.std.proofs.Common.{◌≡◌, ℕ, zero, suc, ◌+◌, ◌<◌, ◌≤◌, cond, ltb, List, [], ◌∷◌, length, get_or, refl, ap, ◌∙◌, arith}
use Rattle.std.specs.List.Sorted.{IsNonDecreasing, IsNonDecreasingBy, IsPermutation}
use Rattle.std.proofs.lemmas.List.{get_or-map, length-map}
use Rattle.std.proofs.lemmas.List.Kept.{IsNonDecreasingBy-filter}
use Rattle.std.proofs.lemmas.List.Sorted.{sum_by-IsPermutation}
use Rattle.token_grammar.specs.declared.token.Token.{Token}
use Rattle.token_grammar.specs.declared.token.TokenKind.TheVariants.{Name}
use Rattle.st_lexer.specs.Cut.{IsCut, CutTo}
use Rattle.st_tree.specs.declared.file.Comment.{Comment}
use Rattle.token_grammar.specs.Texts.{lexeme}
use Rattle.tree_numbers.specs.NumberedAt.{before}
use Rattle.st_units.specs.SourceTrees.{is_comment, comments_among, comments_from, comment_at, starts_of}

-- ---- the order of tokens

later : (at : ℕ) (bytes : List ℕ) (ts : List Token) (place : ℕ) (rest : List ℕ)
    → CutTo at bytes ts place rest → (j : ℕ) (d : Token) → j < length ts
    → at ≤ (get_or ts j d).start
later at bytes [] place rest c j d lt = absurd (omega (arith, lt))
later at bytes (t ∷ ts) place rest c zero d lt = omega (arith, c.1.blank.place_is)
later at bytes (t ∷ ts) place rest c (suc k) d lt = let more =
    later t.end c.0 ts place rest c.2 k d (omega (arith, lt)) in
    omega (arith, c.1.blank.place_is, c.1.end, more)

rises : (at : ℕ) (bytes : List ℕ) (ts : List Token) (place : ℕ) (rest : List ℕ)
    → CutTo at bytes ts place rest → (i j : ℕ) (d : Token) → i ≤ j → j < length ts
    → (get_or ts i d).start ≤ (get_or ts j d).start
rises at bytes [] place rest c i j d le lt = absurd (omega (arith, lt))
rises at bytes (t ∷ ts) place rest c zero zero d le lt = omega arith
rises at bytes (t ∷ ts) place rest c zero (suc k) d le lt = let more =
    later t.end c.0 ts place rest c.2 k d (omega (arith, lt)) in omega (arith, c.1.end, more)
rises at bytes (t ∷ ts) place rest c (suc i) zero d le lt = absurd (omega (arith, le))
rises at bytes (t ∷ ts) place rest c (suc i) (suc k) d le lt =
    rises t.end c.0 ts place rest c.2 i k d (omega (arith, le)) (omega (arith, lt))

some_token : Token
some_token = record { kind = Name; start = 0; end = 0 }

start_in : (ts : List Token) (i d : ℕ) → i < length ts
    → get_or (starts_of ts) i d ≡ (get_or ts i some_token).start
start_in ts i d lt = get_or-map (λ t. t.start) ts i some_token d lt

starts_rise : (ts : List Token) → IsNonDecreasingBy (λ t. t.start) ts
    → IsNonDecreasing (starts_of ts)
starts_rise ts h i j d le lt =
    let short : j < length ts = omega (arith, lt, length-map ts (λ (t : Token). t.start)) in
    let first = start_in ts i d (omega (arith, le, short)) in
    let second = start_in ts j d short in
    omega (arith, first, second, h i j some_token le short)

pub comments_rise : (text : List ℕ) (tokens : List Token) → IsCut text tokens
    → IsNonDecreasing (starts_of (comments_among tokens))
comments_rise text tokens c = starts_rise (comments_among tokens)
    (IsNonDecreasingBy-filter (λ t. t.start) is_comment tokens (rises _ _ tokens _ _ c.cut))

-- ---- numbers

before_same : (xs ys : List ℕ) → IsPermutation xs ys → (x : ℕ) → before ys x ≡ before xs x
unfolding before
before_same xs ys h x = sum_by-IsPermutation (λ y. cond (ltb y x) 1 0) xs ys h

pub comments_same : (xs ys : List ℕ) → IsPermutation xs ys
    → (index : ℕ) (text : List ℕ) (ts : List Token)
    → comments_from ys index text ts ≡ comments_from xs index text ts
comments_same xs ys h index text [] = refl
comments_same xs ys h index text (t ∷ ts) =
    let first : comment_at ys index text t ≡ comment_at xs index text t =
    ap (λ (n : ℕ). record {
      node = record {
        number = record { 0 = index + n };
        start = t.start;
        end = t.end;
      };
      text = (lexeme text t).bytes;
    }) (before_same xs ys h t.start) in
    ap (λ (c : Comment). c ∷ comments_from ys (suc index) text ts) first ∙ ap
    (λ (cs : List Comment). comment_at xs index text t ∷ cs)
    (comments_same xs ys h (suc index) text ts)
