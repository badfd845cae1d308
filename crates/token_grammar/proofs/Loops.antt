-- Any number of times.
use Rattle.std.proofs.Common.{◌≡◌, ℕ, zero, suc, ◌+◌, ◌<◌, ◌≤◌, Bool, true, false, List, [], ◌∷◌, ◌++◌, length, Ok, Err, refl, sym, ap, ◌∙◌, append_assoc, arith, inl}
use Rattle.std.proofs.lemmas.List.{append_cancel_right, length-append, append-nil}
use Rattle.token_grammar.specs.Texts.{Lexeme}
use Rattle.token_grammar.specs.steps.Parsers.{Input, Outcome, Parser, and_then, loop_by, loop, repeated}
use Rattle.token_grammar.specs.Grammar.{Word, Rule, lexemes_of, Within, times, many}
use Rattle.token_grammar.proofs.Laws.{input, ends, Read, Told, gate, Same, Cut, Held, cut_held, none_above, Exact, lexemes_of-two, Within-append, ends-append}
use Rattle.token_grammar.proofs.Bind.{gate-append, local_bind, cut_bind}
use Rattle.token_grammar.proofs.Steps.{IsOfOne, one_of_both}

-- what a turn is
pub record Turn {A : Type 0} (V : ℕ → Type 0) (test : List Lexeme → Bool) (step : A → Parser A)
    (rule : A → Rule A) (more : List Lexeme → Bool) : Type 0 where
  pub exact : (a : A) → Exact V (step a) (rule a) more
  pub carry : (a : A) (d : ℕ) (u : Word) (x : A) (m : ℕ) → V d → rule a d u x m → Within u → V m
  -- a turn begins with a token that passes the test
  pub begins : (a : A) (d : ℕ) (u : Word) (x : A) (m : ℕ) → rule a d u x m → (rest : List Lexeme)
      → test (lexemes_of u ++ rest) ≡ true
  pub longer : (a : A) (d : ℕ) (u : Word) (x : A) (m : ℕ) → rule a d u x m → 0 < length u
  pub one : IsOfOne test
  pub none : test [] ≡ false
  -- a turn that begins takes its first token
  pub held : (a : A) (last d : ℕ) → V d → (t : Lexeme) (r : List Lexeme) → test (t ∷ r) ≡ true
      → Held t r (step a (input last d (t ∷ r)))
  -- a turn isn't begun where the one before it goes on
  pub apart : (ts : List Lexeme) → test ts ≡ true → more ts ≡ false

length-lexemes_of : (w : Word) → length (lexemes_of w) ≡ length w
length-lexemes_of [] = refl
length-lexemes_of (p ∷ w) = ap suc (length-lexemes_of w)

shorter : (d : ℕ) (u v : List Lexeme) (t : Lexeme) (r1 r2 : List Lexeme) (m : ℕ)
    (rest : List Lexeme) (w : Word) → 0 < length w → u ++ t ∷ r1 ≡ lexemes_of w ++ rest
    → rest ≡ v ++ t ∷ r1 → length (u ++ t ∷ r2) ≤ suc m → length (v ++ t ∷ r2) ≤ m
shorter d u v t r1 r2 m rest w some e1 e2 le =
    let n1 = ap length e1 in let n2 = ap length e2 in
    omega (
      arith,
      some,
      le,
      n1,
      n2,
      length-append u (t ∷ r1),
      length-append u (t ∷ r2),
      length-append v (t ∷ r1),
      length-append v (t ∷ r2),
      length-append (lexemes_of w) rest,
      length-lexemes_of w,
    )

shorter_cut : (u v : List Lexeme) (t : Lexeme) (r : List Lexeme) (m : ℕ) (rest : List Lexeme)
    (w : Word) → 0 < length w → u ++ t ∷ r ≡ lexemes_of w ++ rest → rest ≡ v ++ t ∷ r
    → length u ≤ suc m → length v ≤ m
shorter_cut u v t r m rest w some e1 e2 le =
    let n1 = ap length e1 in let n2 = ap length e2 in
    omega (
      arith,
      some,
      le,
      n1,
      n2,
      length-append u (t ∷ r),
      length-append v (t ∷ r),
      length-append
          (lexemes_of w) rest,
      length-lexemes_of w,
    )

left_held : {A : Type 0} (L : Rule A) (t : Lexeme) (r : List Lexeme) (w : Word) (rest : List Lexeme)
    → t ∷ r ≡ lexemes_of w ++ rest → 0 < length w → (x : A) (o : Input) (out : Outcome A)
    → Told L o out → o.rest ≡ rest → Held t r out
left_held L t r w rest e some x o (Ok q) told is = λ e2. let n1 = ap length e in
    let n2 = ap length told.tokens in let n3 = ap length e2 in let n4 = ap length is in
    omega (
      arith,
      some,
      n1,
      n2,
      n3,
      n4,
      length-append (lexemes_of w) rest,
      length-lexemes_of w,
      length-append (lexemes_of told.word) q.1.rest,
    )
left_held L t r w rest e some x o (Err s) told is = λ code e2. let n1 = ap length e in
    let n2 = ap length told.tokens in let n3 = ap length e2 in let n4 = ap length is in
    omega (
      arith,
      some,
      n1,
      n2,
      n3,
      n4,
      length-append (lexemes_of w) rest,
      length-lexemes_of w,
      length-append (lexemes_of told.word) s.rest,
    )

module _ {A : Type 0} {V : ℕ → Type 0} {test : List Lexeme → Bool} {step : A → Parser A}
    {rule : A → Rule A} {more : List Lexeme → Bool} (h : Turn V test step rule more) where
  told_turn : (a : A) (i : Input) (x : A) (o : Input) (out : Outcome A) → Read (rule a) i x o
      → Told (many rule x) o out → Told (many rule a) i out
  told_turn a i x o (Ok p) r k = record {
    word = r.word ++ k.word;
    tokens = r.tokens ∙ ap (λ (ts : List Lexeme). lexemes_of r.word ++ ts) k.tokens
        ∙ sym (lexemes_of-two r.word k.word p.1.rest);
    spelled = (suc k.spelled.0, (r.word, k.word, x, o.depth, refl, r.spelled, k.spelled.1));
    within = Within-append r.word k.word r.within k.within;
    last = k.last ∙ ap (λ (n : ℕ). ends n k.word) r.last ∙ sym (ends-append i.last r.word k.word);
  }
  told_turn a i x o (Err s) r k = record {
    word = r.word ++ k.word;
    more = k.more;
    value = k.value;
    depth = k.depth;
    tokens = r.tokens ∙ ap (λ (ts : List Lexeme). lexemes_of r.word ++ ts) k.tokens
        ∙ sym (lexemes_of-two r.word k.word s.rest);
    spelled = (
      suc k.spelled.0,
      (
        r.word,
        k.word ++ k.more,
        x,
        o.depth,
        append_assoc r.word k.word
            k.more,
        r.spelled,
        k.spelled.1,
      ),
    );
    within = Within-append r.word k.word r.within k.within;
    reason = k.reason;
  }

  told_none : (a : A) (i : Input) → Told (many rule a) i (Ok (a, i))
  told_none a i = record {
    word = [];
    tokens = refl;
    spelled = (zero, (refl, refl, refl));
    within = tt;
    last = refl;
  }

  told_by : (a : A) (i : Input) (b : Bool) (out : Outcome A) (next : A → Parser A)
      → Told (rule a) i out
      → ((x : A) (o : Input) → Read (rule a) i x o → Told (many rule x) o (next x o))
      → Told (many rule a) i (loop_by b out next a i)
  told_by a i false out next k f = told_none a i
  told_by a i true (Ok p) next k f = told_turn a i p.0 p.1 (next p.0 p.1) k (f p.0 p.1 k)
  told_by a i true (Err s) next k f = record {
    word = k.word;
    more = k.more;
    value = k.value;
    depth = k.depth;
    tokens = k.tokens;
    spelled = (
      1,
      (
        k.word ++ k.more,
        [],
        k.value,
        k.depth,
        sym (append-nil (k.word ++ k.more)),
        k.spelled,
        (refl, refl, refl),
      ),
    );
    within = k.within;
    reason = k.reason;
  }

  told_loop : (n : ℕ) (a : A) (i : Input) → V i.depth → Told (many rule a) i (loop test step n a i)
  unfolding loop
  told_loop zero a i v = told_none a i
  told_loop (suc n) a i v = told_by a i (test i.rest) (step a i) (loop test step n)
      ((h.exact a).told i v) (λ x o r. told_loop n x o (h.carry a i.depth r.word x o.depth v
      r.spelled r.within))

  pub after : (k : ℕ) (b : A) (m : ℕ) (u2 : Word) (x : A) (e : ℕ) (rest : List Lexeme)
      → more rest ≡ false → times rule k b m u2 x e → more (lexemes_of u2 ++ rest) ≡ false
  after zero b m u2 x e rest no_more (empty, is, same) = rw empty no_more
  after (suc k) b m u2 x e rest no_more (v1, v2, c, m', eq, l, r) = h.apart (lexemes_of u2 ++ rest)
      (rw (eq, lexemes_of-two v1 v2 rest) (h.begins b m v1 c m' l (lexemes_of v2 ++ rest)))

  rises_times : (n : ℕ) (a : A) (d : ℕ) (w : Word) (x : A) (e : ℕ) → times rule n a d w x e → d ≤ e
  rises_times zero a d w x e (empty, is, same) = omega (arith, same)
  rises_times (suc n) a d w x e (u1, u2, b, m, eq, l, r) =
      omega (arith, (h.exact a).rises d u1 b m l, rises_times n b m u2 x e r)

  -- ---- what is read again
  complete_loop : (k n : ℕ) (a : A) (d : ℕ) (w : Word) (x : A) (e : ℕ) → V d
      → times rule k a d w x e → (last : ℕ) (rest : List Lexeme) → test rest ≡ false
      → more rest ≡ false → length w + length rest ≤ n
      → loop test step n a (input last d (lexemes_of w ++ rest)) ≡ gate w rest last x e
  unfolding loop
  complete_loop zero zero a d w x e v (empty, is, same) last rest ends_here no_more enough =
      rw (empty, is, same) refl
  complete_loop zero (suc n) a d w x e v (empty, is, same) last rest ends_here no_more enough =
      rw (empty, is, same, ends_here) refl
  complete_loop (suc k) zero a d w x e v (u1, u2, b, m, eq, l, r) last rest ends_here no_more
      enough =
      absurd (omega (arith, h.longer a d u1 b m l, ap length eq, length-append u1 u2, enough))
  complete_loop (suc k) (suc n) a d w x e v (u1, u2, b, m, eq, l, r) last rest ends_here no_more
      enough =
      let first = (h.exact a).complete d u1 b m v l last (lexemes_of u2 ++ rest)
      (after k b m u2 x e rest no_more r) in
      let begun = h.begins a d u1 b m l (lexemes_of u2 ++ rest) in
      let both = gate-append (loop test step n) u1 u2 rest last b m x e
      (λ within. complete_loop k n b m u2 x e (h.carry a d u1 b m v l within) r (ends last u1)
      rest ends_here no_more (omega (
        arith,
        h.longer a d u1 b m l,
        ap length eq,
        length-append
            u1 u2,
        enough,
      ))) in
      rw (eq, lexemes_of-two u1 u2 rest, begun, first) both

  -- ---- that later tokens don't matter
  same_turn : (b : Bool) (a : A) (d last : ℕ) (u : List Lexeme) (t : Lexeme) (r1 r2 : List Lexeme)
      (f1 f2 : A → Parser A) (x1 x2 : Outcome A)
      → Same t r1 r2 (and_then x1 f1) (and_then x2 f2)
      → Same t r1 r2 (loop_by b x1 f1 a (input last d (u ++ t ∷ r1)))
      (loop_by b x2 f2 a (input last d (u ++ t ∷ r2)))
  same_turn true a d last u t r1 r2 f1 f2 x1 x2 k = k
  same_turn false a d last u t r1 r2 f1 f2 x1 x2 k =
      λ v e. ap (λ (x : List Lexeme). Ok (a, input last d (x ++ t ∷ r2)))
      (append_cancel_right u v (t ∷ r1) e)

  same_loop : (n m : ℕ) (a : A) (last d : ℕ) → V d
      → (u : List Lexeme) (t : Lexeme) (r1 r2 : List Lexeme) → length (u ++ t ∷ r1) ≤ n
      → length (u ++ t ∷ r2) ≤ m
      → Same t r1 r2 (loop test step n a (input last d (u ++ t ∷ r1)))
      (loop test step m a (input last d (u ++ t ∷ r2)))
  unfolding loop
  same_loop zero m a last d v u t r1 r2 le1 le2 =
      absurd (omega (arith, le1, length-append u (t ∷ r1)))
  same_loop (suc n) zero a last d v u t r1 r2 le1 le2 =
      absurd (omega (arith, le2, length-append u (t ∷ r2)))
  same_loop (suc n) (suc m) a last d v u t r1 r2 le1 le2 =
      rw (one_of_both test h.one u t r1 r2) (same_turn (test (u ++ t ∷ r2)) a d last u t r1 r2
      (loop test step n) (loop test step m) (step a (input last d (u ++ t ∷ r1)))
      (step a (input last d (u ++ t ∷ r2)))
      (local_bind (rule a) (many rule) (loop test step n) (loop test step m)
      (input last d (u ++ t ∷ r1)) t r1 r2 (step a (input last d (u ++ t ∷ r1)))
      (step a (input last d (u ++ t ∷ r2)))
      ((h.exact a).told (input last d (u ++ t ∷ r1)) v) ((h.exact a).local last d v u t r1 r2)
      (λ x o r. told_loop n x o (h.carry a d r.word x o.depth v r.spelled r.within))
      (λ x o r u' eq. same_loop n m x o.last o.depth (h.carry a d r.word x o.depth v r.spelled
      r.within) u' t r1 r2
      (omega (
        arith,
        le1,
        h.longer a d r.word x o.depth r.spelled,
        ap length r.tokens,
        length-append
            (lexemes_of r.word) o.rest,
        length-lexemes_of r.word,
        ap length eq,
      ))
      (shorter d u u' t r1 r2 m o.rest r.word (h.longer a d r.word x o.depth r.spelled) r.tokens eq
      le2))))

  -- ---- that the input ends

  -- a turn leaves less than the input
  cut_first : (n : ℕ) (a : A) (last d : ℕ) → V d
      → (t : Lexeme) (r : List Lexeme) (b : Bool) (out : Outcome A) → test (t ∷ r) ≡ b
      → Told (rule a) (input last d (t ∷ r)) out → (b ≡ true → Held t r out)
      → Cut t r (loop_by b out (loop test step n) a (input last d (t ∷ r)))
      (Ok (a, input last d []))
  cut_first n a last d v t r false out is told held = λ e. inl refl
  cut_first n a last d v t r true (Err s) is told held = λ code e. absurd (held refl code e)
  cut_first n a last d v t r true (Ok q) is told held = cut_held t r (loop test step n q.0 q.1) _
      (left_held (many rule q.0) t r told.word q.1.rest told.tokens
      (h.longer a d told.word q.0 q.1.depth told.spelled) q.0 q.1 (loop test step n q.0 q.1)
      (told_loop n q.0 q.1 (h.carry a d told.word q.0 q.1.depth v told.spelled told.within)) refl)

  cut_turn : (b : Bool) (a c : A) (d last : ℕ) (z : Lexeme) (u : List Lexeme) (t : Lexeme)
      (r : List Lexeme) (f1 f2 : A → Parser A) (x1 x2 : Outcome A)
      → Cut t r (and_then x1 f1) (and_then x2 f2)
      → Cut t r (loop_by b x1 f1 a (input last d (z ∷ (u ++ t ∷ r))))
      (loop_by b x2 f2 a (input last d (z ∷ u)))
  cut_turn true a c d last z u t r f1 f2 x1 x2 k = k
  cut_turn false a c d last z u t r f1 f2 x1 x2 k = λ e. absurd (none_above z u (t ∷ r) e)

  cut_loop : (n m : ℕ) (a : A) (last d : ℕ) → V d → (u : List Lexeme) (t : Lexeme) (r : List Lexeme)
      → length (u ++ t ∷ r) ≤ n → length u ≤ m
      → Cut t r (loop test step n a (input last d (u ++ t ∷ r)))
      (loop test step m a (input last d u))
  unfolding loop
  cut_loop zero m a last d v u t r le1 le2 = absurd (omega (arith, le1, length-append u (t ∷ r)))
  cut_loop (suc n) zero a last d v [] t r le1 le2 = cut_first n a last d v t r (test (t ∷ r))
      (step a (input last d (t ∷ r))) refl ((h.exact a).told (input last d (t ∷ r)) v)
      (h.held a last d v t r)
  cut_loop (suc n) zero a last d v (z ∷ u) t r le1 le2 = absurd (omega (arith, le2))
  cut_loop (suc n) (suc m) a last d v [] t r le1 le2 =
      rw h.none (cut_first n a last d v t r (test (t ∷ r)) (step a (input last d (t ∷ r))) refl
      ((h.exact a).told (input last d (t ∷ r)) v) (h.held a last d v t r))
  cut_loop (suc n) (suc m) a last d v (z ∷ u) t r le1 le2 =
      rw (h.one z (u ++ t ∷ r) u) (cut_turn (test (z ∷ u)) a a d last z u t r (loop test step n)
      (loop test step m) (step a (input last d (z ∷ (u ++ t ∷ r))))
      (step a (input last d (z ∷ u)))
      (cut_bind (step a) (rule a) (many rule) (loop test step n) (loop test step m) last d (z ∷ u) t
      r (step a (input last d (z ∷ (u ++ t ∷ r)))) refl
      ((h.exact a).told (input last d (z ∷ (u ++ t ∷ r))) v) ((h.exact a).cut last d v (z ∷ u) t r)
      ((h.exact a).local last d v)
      (λ x o r'. told_loop n x o (h.carry a d r'.word x o.depth v r'.spelled r'.within))
      (λ x o r' u' eq. cut_loop n m x o.last o.depth (h.carry a d r'.word x o.depth v r'.spelled
      r'.within) u' t r
      (omega (
        arith,
        le1,
        h.longer a d r'.word x o.depth r'.spelled,
        ap length r'.tokens,
        length-append (lexemes_of r'.word) o.rest,
        length-lexemes_of r'.word,
        ap length eq,
      ))
      (shorter_cut (z ∷ u) u' t r m o.rest r'.word (h.longer a d r'.word x o.depth r'.spelled)
      r'.tokens eq le2))))

pub exact_repeated : {A : Type 0} {V : ℕ → Type 0} {test : List Lexeme → Bool} {step : A → Parser A}
    {rule : A → Rule A} {more more2 : List Lexeme → Bool} (h : Turn V test step rule more)
    → ((rest : List Lexeme) → more2 rest ≡ false → (test rest ≡ false) × (more rest ≡ false))
    → (a : A) → Exact V (repeated test step a) (many rule a) more2
unfolding repeated
exact_repeated {A} {V} {test} {step} {rule} h fewer a = record {
  told = λ i v. told_loop h (length i.rest) a i v;
  complete = λ d w x e v k last rest ends_here. complete_loop h k.0 (length (lexemes_of w ++ rest))
      a d w x e v k.1 last rest (fewer rest ends_here).0 (fewer rest ends_here).1
      (omega (arith, length-append (lexemes_of w) rest, length-lexemes_of w));
  local = λ last d v u t r1 r2. same_loop h (length (u ++ t ∷ r1)) (length (u ++ t ∷ r2)) a last d v
      u t r1 r2 (omega arith) (omega arith);
  cut = λ last d v u t r. cut_loop h (length (u ++ t ∷ r)) (length u) a last d v u t r (omega arith)
      (omega arith);
  some = λ d. record { word = []; value = a; depth = d; spelled = (zero, (refl, refl, refl)) };
  rises = λ d w x e (n, l). rises_times h n a d w x e l;
}
