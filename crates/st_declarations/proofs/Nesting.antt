-- Rules that nest to a depth, and what nests to a depth among what nests deeper.
use Rattle.std.proofs.Common.{ℕ, zero, suc, ◌+◌, ◌<◌, ◌≤◌, List, [], ◌∷◌, arith}
use Rattle.token_grammar.specs.declared.token.TokenKind.{TokenKind}
use Rattle.token_grammar.specs.steps.Parsers.{Parser}
use Rattle.token_grammar.specs.Grammar.{Rule}
use Rattle.token_grammar.proofs.Laws.{Exact, Some_}
use Rattle.token_grammar.proofs.Starts.{sees_any, Starts, IsLevel}
use Rattle.token_grammar.proofs.Forms.{Form, Inner}
use Rattle.token_grammar.proofs.Same.{SubRule, SameRule, some_of, exact_as, exact_some_of, starts_some_of, sub_self, sub_bind, sub_then, sub_before, sub_or, sub_scoped, sub_node, sub_many, sub_some_of}
use Rattle.st_tree.specs.declared.declaration.Init.{Init}
use Rattle.st_expr.proofs.Lists.{Here}
use Rattle.st_declarations.specs.Trees.{make_array, make_elements, make_structure, make_repeated, make_field_init}
use Rattle.st_declarations.specs.Grammar as g

-- ---- a rule for each depth, and a parser for each

module _ {A : Type 0} (parser : ℕ → Parser A) (rule : ℕ → Rule A) (firsts ends : List TokenKind)
    (level : (m : ℕ) → IsLevel (rule m))
    (some : (m d : ℕ) → Some_ (rule (suc m)) d)
    (step : (n m : ℕ) → n < m → Exact (Inner n) (parser n) (rule m) (sees_any ends)
    → Form (Inner (suc n)) (parser (suc n)) (rule (suc m)) firsts ends)
    (sub : (n m : ℕ) → n ≤ m → SubRule (rule n) (rule m)) where
  exact_within : (n m : ℕ) → n < m → Exact (Inner n) (parser n) (rule m) (sees_any ends)
  exact_within n zero lt = absurd (omega (arith, lt))
  exact_within zero (suc m) lt = record {
    told = λ i v. absurd (omega (arith, v));
    complete = λ d w x e v. absurd (omega (arith, v));
    local = λ last d v. absurd (omega (arith, v));
    cut = λ last d v. absurd (omega (arith, v));
    some = some m;
    rises = λ d w x e l. omega (arith, level (suc m) d w x e l);
  }
  exact_within (suc n) (suc m) lt =
      (step n m (omega (arith, lt)) (exact_within n m (omega (arith, lt)))).exact

  -- those that nest at least as deep as the parser reads are all of them
  from_depth : SameRule (some_of (λ n. rule (258 + n))) (some_of rule)
  from_depth = record {
    to = sub_some_of (λ n. 258 + n) (λ n. sub_self);
    from = sub_some_of (λ n. n) (λ n. sub n (258 + n) (omega arith));
  }

  pub form_all : ((m : ℕ) → Starts (rule m) firsts)
      → Form Here (parser 257) (some_of rule) firsts ends
  form_all starts = record {
    exact = exact_as from_depth (exact_some_of (λ n. exact_within 257 (258 + n) (omega arith)));
    starts = starts_some_of starts;
    opens = record {
      word = λ d t r e.
          let last = step 256 257 (omega arith) (exact_within 256 257 (omega arith)) in
          let (at, w, x, m, l) = last.opens.word d t r e in
          (at, w, x, m, (258, l));
    };
  }

-- ---- specs

pub spec_sub : (n m : ℕ) → n ≤ m → SubRule (g.spec_within n) (g.spec_within m)
unfolding g.spec_within
spec_sub zero m le = record { to = λ d w x e l. absurd l }
spec_sub (suc n) zero le = absurd (omega (arith, le))
spec_sub (suc n) (suc m) le =
    let inner = spec_sub n m (omega (arith, le)) in
    let array = sub_node make_array (sub_scoped
    (sub_then (λ _. sub_then (λ rs. sub_then (λ _. sub_before inner))))) in
    let within : SubRule (g.any_spec (g.spec_within n)) (g.any_spec (g.spec_within m)) =
    sub_or array sub_self in
    record { to = λ d w x e l. within.to d w x e l }

-- ---- initial values

sub_commas : {A : Type 0} {one other : Rule A} → SubRule one other
    → SubRule (g.commas one) (g.commas other)
sub_commas h = sub_bind h (λ x. sub_many (λ found. sub_then (λ _. sub_before h)) (x ∷ []))

module _ {inner outer : Rule Init} (h : SubRule inner outer) where
  repeated_item : SubRule (g.repeated_item inner) (g.repeated_item outer)
  repeated_item = sub_node make_repeated (sub_then
      (λ text. sub_scoped (sub_then (λ _. sub_before h))))

  one_item : SubRule (g.one_item inner) (g.one_item outer)
  one_item = sub_or repeated_item (sub_before h)

  elements : SubRule (g.elements inner) (g.elements outer)
  elements = sub_node make_elements (sub_scoped (sub_then (λ _. sub_before (sub_commas one_item))))

  field_init : SubRule (g.field_init inner) (g.field_init outer)
  field_init = sub_node make_field_init (sub_then (λ i. sub_then (λ _. sub_before h)))

  structure : SubRule (g.structure inner) (g.structure outer)
  structure = sub_node make_structure (sub_scoped
      (sub_then (λ _. sub_before (sub_commas field_init))))

  any_init : SubRule (g.any_init inner) (g.any_init outer)
  any_init = sub_or elements (sub_or structure sub_self)

pub init_sub : (n m : ℕ) → n ≤ m → SubRule (g.init_within n) (g.init_within m)
unfolding g.init_within
init_sub zero m le = record { to = λ d w x e l. absurd l }
init_sub (suc n) zero le = absurd (omega (arith, le))
init_sub (suc n) (suc m) le =
    let within = any_init (init_sub n m (omega (arith, le))) in
    record { to = λ d w x e l. within.to d w x e l }
