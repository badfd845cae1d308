-- Lists: one after the other, or with commas between them; what ends with one token.
use Rattle.std.proofs.Common.{◌≡◌, ℕ, suc, ◌+◌, ◌≤◌, Bool, true, false, List, [], ◌∷◌, ◌++◌, arith}
use Rattle.token_grammar.specs.declared.token.TokenKind.{TokenKind}
use Rattle.token_grammar.specs.declared.token.TokenKind.TheVariants as k
use Rattle.token_grammar.specs.Texts.{Lexeme}
use Rattle.token_grammar.specs.steps.Parsers.{Parser, and_then, pure, take, repeated, sees_in}
use Rattle.token_grammar.specs.Grammar.{Rule, ◌>>=◌, give, token, many}
use Rattle.token_grammar.proofs.Laws.{Exact}
use Rattle.token_grammar.proofs.Steps.{exact_same}
use Rattle.token_grammar.proofs.Starts.{sees_any, disjoint, Starts, IsLevel, bind_starts, bind_give, starts_bind, starts_token}
use Rattle.token_grammar.proofs.Forms.{Form, Inner, Anywhere, anywhere, level_carries, form_take, form_as, form_last, exact_many, exact_list, level_bind, level_give, level_many, level_then}
use Rattle.token_grammar.proofs.Loose.{Loose, loose_many}
use Rattle.st_expr.proofs.Operators.{last_is}

abbrev pub Here : ℕ → Type 0
Here = Inner 257

pub one_kind : (kind : TokenKind) (ts : List Lexeme) → sees_in kind ts ≡ sees_any (kind ∷ []) ts
one_kind kind ts = last_is (sees_in kind ts)

pub stays : (n d : ℕ) → Inner n d → d + 0 ≤ 256 → Inner n (d + 0)
stays n d v le = (omega (arith, v.0), le)

pub into : (V : ℕ → Type 0) (d : ℕ) → V d → d + 1 ≤ 256 → Here (d + 1)
into V d v le = (omega arith, le)

pub inward : (n d : ℕ) → Inner (suc n) d → d + 1 ≤ 256 → Inner n (d + 1)
inward n d v le = (omega (arith, v.0), le)

pub deeper_in : (n d : ℕ) → Inner n d → d + 1 ≤ 256 → Inner n (d + 1)
deeper_in n d v le = (omega (arith, v.0), le)

pub form_fewer : {A : Type 0} {V : ℕ → Type 0} {p : Parser A} {L : Rule A} {ks es : List TokenKind}
    (fewer : List TokenKind) → Form V p L ks es → ((rest : List Lexeme)
    → sees_any fewer rest ≡ false → sees_any es rest ≡ false) → Form V p L ks fewer
form_fewer fewer h none = record {
  exact = exact_same h.exact (λ d v. v) (λ d w x e l. l)
      (λ d w x e l. l) none;
  starts = h.starts;
  opens = h.opens;
}

-- ---- lists

abbrev add : {A : Type 0} → Rule A → List A → Rule (List A)
add L xs = L >>= λ x. give (xs ++ x ∷ [])

pub exact_each : {A : Type 0} {p : Parser A} {L : Rule A} {test : List Lexeme → Bool}
    {ks : List TokenKind} → ((ts : List Lexeme) → test ts ≡ sees_any ks ts) → Form Here p L ks []
    → disjoint ks [] ≡ true → IsLevel L
    → Exact Here (repeated test (λ (xs : List A). λ i. and_then (p i) (λ x. pure (xs ++ x ∷ [])))
    []) (many (λ (xs : List A). L >>= λ x. give (xs ++ x ∷ [])) []) (sees_any (ks ++ []))
exact_each is h apart level = exact_many is (λ xs. form_as (λ x. xs ++ x ∷ []) h) apart
    (λ xs. level_carries Here (level_bind level (λ x. level_give (xs ++ x ∷ [])))) []

pub level_each : {A : Type 0} {L : Rule A} → IsLevel L → IsLevel
    (many (λ (xs : List A). L >>= λ x. give (xs ++ x ∷ [])) [])
level_each level = level_many (λ xs. level_bind level (λ x. level_give (xs ++ x ∷ []))) []

pub loose_each : {A : Type 0} {L : Rule A} {ks : List TokenKind} → Starts L ks
    → Loose (many (λ (xs : List A). L >>= λ x. give (xs ++ x ∷ [])) []) ks
loose_each h = loose_many (λ xs. starts_bind h) []

level_comma : {A : Type 0} {L : Rule A} → IsLevel L → (xs : List A)
    → IsLevel (token k.Comma >>= λ _. L >>= λ y. give (xs ++ y ∷ []))
level_comma level xs = level_then k.Comma (λ _. level_bind level (λ y. level_give (xs ++ y ∷ [])))

pub exact_commas : {A : Type 0} (n : ℕ) {p : Parser A} {L : Rule A} (es : List TokenKind)
    → Exact (Inner n) p L (sees_any es) → disjoint (k.Comma ∷ []) es ≡ true → IsLevel L
    → Exact (Inner n) (λ i. and_then (p i) (λ x. repeated (sees_in k.Comma)
    (λ (xs : List A). λ i. and_then (take k.Comma i) (λ _. λ i. and_then (p i)
    (λ y. pure (xs ++ y ∷ [])))) (x ∷ [])))
    (L >>= λ x. many (λ (xs : List A). token k.Comma >>= λ _. L >>= λ y. give (xs ++ y ∷ []))
    (x ∷ [])) (sees_any (k.Comma ∷ es))
exact_commas {A} n {p} {L} es h free level =
    exact_list {step = λ _ (xs : List A). λ i. and_then (take k.Comma i)
    (λ _. λ i. and_then (p i) (λ y. pure (xs ++ y ∷ [])))} {rule = λ _ (xs : List A). token k.Comma
    >>= λ _. L >>= λ y. give (xs ++ y ∷ [])} (one_kind k.Comma)
    (λ _ xs. form_take {W = Inner n} k.Comma 0 0 (λ _. bind_give (λ y. xs ++ y ∷ []) h) (stays n))
    free (λ _ xs. level_carries (Inner n) (level_comma level xs)) (λ x. x ∷ []) h
    (level_carries (Inner n) level)

pub level_commas : {A : Type 0} {L : Rule A} → IsLevel L → IsLevel
    (L >>= λ x. many (λ (xs : List A). token k.Comma >>= λ _. L >>= λ y. give (xs ++ y ∷ []))
    (x ∷ []))
level_commas level = level_bind level (λ x. level_many (λ xs. level_comma level xs) (x ∷ []))

-- ---- a last token

pub exact_last : {A B : Type 0} {V : ℕ → Type 0} {p : Parser A} {L : Rule A} (ends : List TokenKind)
    (kind : TokenKind) (g : A → B) → Exact V p L (sees_any ends) → disjoint (kind ∷ []) ends ≡ true
    → Exact V (λ i. and_then (p i) (λ x. λ i. and_then (take kind i) (λ _. pure (g x))))
    (L >>= λ x. token kind >>= λ _. give (g x)) (sees_any [])
exact_last {A} {B} {V} {p} {L} ends kind g h apart = bind_starts {W = Anywhere} ends h
    (λ x. (form_last kind (g x)).exact) (anywhere V L) (λ x. (form_last {V = Anywhere} kind
    (g x)).starts) apart

pub starts_last : {B : Type 0} (kind : TokenKind) (b : B) → Starts (token kind >>= λ _. give b) (kind ∷ [])
starts_last kind b = starts_bind (starts_token kind 0 0)

pub level_last : {B : Type 0} (kind : TokenKind) (b : B) → IsLevel (token kind >>= λ _. give b)
level_last kind b = level_then kind (λ _. level_give b)
