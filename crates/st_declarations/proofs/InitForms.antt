-- The parsers of initial values read their grammar: two lexemes tell whether an item is repeated,
-- three whether a value is a structure's.
use Rattle.std.proofs.Common.{◌≡◌, ℕ, zero, suc, ◌+◌, ◌<◌, true, false, List, [], ◌∷◌, ◌++◌, Some, None, refl, sym, ap, ◌∙◌, arith, inr}
use Rattle.std.proofs.lemmas.List.{append-nil}
use Rattle.token_grammar.specs.declared.token.TokenKind.{TokenKind}
use Rattle.token_grammar.specs.declared.token.TokenKind.TheVariants as k
use Rattle.token_grammar.specs.Texts.{Lexeme}
use Rattle.token_grammar.specs.Kinds.{is_kind}
use Rattle.token_grammar.specs.steps.Parsers.{Parser, and_then, pure, choose, sees_two, sees_three}
use Rattle.token_grammar.specs.Grammar.{Word, Rule, lexemes_of, ◌>>=◌, ◌or◌, give}
use Rattle.token_grammar.proofs.Laws.{input, Exact, Some_, Held}
use Rattle.token_grammar.proofs.OneToken.{a_token, same_kind_refl}
use Rattle.token_grammar.proofs.Starts.{sees_any, Starts, IsLevel, bind_give, starts_long, starts_bind, starts_or, starts_scoped, starts_node, starts_token, opens_or}
use Rattle.token_grammar.proofs.Forms.{Form, Inner, level_carries, form_take, form_then, form_as, form_or, form_node, form_scoped, form_narrow, avoids_give, exact_optional, level_bind, level_give, level_or, level_node, level_scoped, level_then}
use Rattle.token_grammar.proofs.Pairs.{BeginsWith, HasNone, exact_pair}
use Rattle.token_grammar.proofs.Two.{both_of}
use Rattle.token_grammar.proofs.Three.{BeginsThree, BeginsTwo, held_there, exact_three}
use Rattle.token_grammar.proofs.Loose.{Loose, loose_optional}
use Rattle.st_tree.specs.declared.declaration.Init.{Init}
use Rattle.st_tree.specs.declared.declaration.Init.TheVariants as init
use Rattle.st_tree.specs.declared.declaration.Item.{Item}
use Rattle.st_tree.specs.declared.declaration.Item.TheVariants as item
use Rattle.st_tree.specs.declared.declaration.FieldInit.{FieldInit}
use Rattle.st_declarations.specs.Trees.{make_elements, make_structure, make_repeated, make_field_init}
use Rattle.st_declarations.specs.Grammar as g
use Rattle.st_declarations.specs.steps.Parse as p
use Rattle.st_expr.specs.Trees.{make_identifier}
use Rattle.st_expr.specs.Grammar.{expression}
use Rattle.st_expr.specs.steps.Parse.{any_expression as read_expression}
use Rattle.st_expr.proofs.Leaves.{form_word, level_word, form_identifier, level_identifier}
use Rattle.st_expr.proofs.Exactness.{firsts, goes_on, form_expression, level_expression}
use Rattle.st_expr.proofs.Numbers.{LacksTwo, lacks_first, lacks_or, lacks_bind, number_expression, three_bind, three_expression, number_alone, group_begins}
use Rattle.st_expr.proofs.Lists.{Here, stays, inward, deeper_in, exact_last}
use Rattle.st_declarations.proofs.ListForms.{exact_commas_of}
use Rattle.st_declarations.proofs.Nesting.{form_all, init_sub}

abbrev pub init_kinds : List TokenKind
init_kinds = k.OpenBracket ∷ k.OpenParenthesis ∷ firsts

-- where an item goes on
abbrev item_ends : List TokenKind
item_ends = k.OpenParenthesis ∷ goes_on

-- a number alone is an initial value
abbrev HasNumbers : Rule Init → Type 0
HasNumbers rule = (d : ℕ) (t : Lexeme) → is_kind k.Number t ≡ true → (x : Init) × (e : ℕ)
    × rule d ((t, d + 0) ∷ []) x e

module _ (n : ℕ) (inner : Parser Init) (rule : Rule Init)
    (h : Exact (Inner n) inner rule (sees_any goes_on)) (starts : Starts rule init_kinds)
    (level : IsLevel rule) (numbers : HasNumbers rule)
    (lacks : LacksTwo rule k.Number k.OpenParenthesis) where
  -- ---- items

  form_repeated : Form (Inner n) (p.repeated_item inner) (g.repeated_item rule) (k.Number ∷ []) []
  unfolding p.repeated_item
  form_repeated = form_node make_repeated (form_then {W = Inner n} (form_word k.Number)
      (λ text. (form_scoped {es = []} (form_take {W = Inner n} {es = []} k.OpenParenthesis 1 1
      (λ _. exact_last goes_on k.CloseParenthesis (λ x. (text, x)) h refl) (deeper_in n))).exact)
      (level_carries (Inner n) (level_word k.Number)))

  level_repeated : IsLevel (g.repeated_item rule)
  level_repeated = level_node make_repeated (level_bind (level_word k.Number)
      (λ text. level_scoped _))

  exact_one : Exact (Inner n) (λ c. and_then (inner c) (λ x. pure (item.One x)))
      (rule >>= λ x. give (item.One x)) (sees_any goes_on)
  exact_one = bind_give item.One h

  -- a number and "(" begin a repeated item
  repeated_begins : BeginsTwo (g.repeated_item rule) k.Number k.OpenParenthesis (λ d. d + 0)
      (λ d. d + 0 + 1)
  repeated_begins d a b is next =
      let s = h.some (d + 0 + 1) in
      let c = a_token k.CloseParenthesis in
      let close : Word = (c, s.depth + 0) ∷ [] in (
        s.word ++ close,
        _,
        d + 0,
        (
          (a.bytes, s.value),
          (
            (a, d + 0) ∷ [],
            (b, d + 0 + 1) ∷ (s.word ++ close),
            a.bytes,
            d + 0,
            refl,
            ((a, d + 0) ∷ [], [], a, d + 0, refl, (refl, is, refl), (refl, refl, refl)),
            (
              s.depth + 0,
              (
                (b, d + 0 + 1) ∷ [],
                s.word ++ close,
                b,
                d + 0 + 1,
                refl,
                (refl, next, refl),
                (
                  s.word,
                  close,
                  s.value,
                  s.depth,
                  refl,
                  s.spelled,
                  (
                    close,
                    [],
                    c,
                    s.depth + 0,
                    refl,
                    (refl, same_kind_refl k.CloseParenthesis, refl),
                    (refl, refl, refl),
                  ),
                ),
              ),
              refl,
            ),
          ),
          refl,
        ),
      )

  first_repeated : BeginsWith (g.repeated_item rule) k.Number
  first_repeated d t is = let (w, x, e, l) = repeated_begins d t (a_token k.OpenParenthesis) is
      (same_kind_refl k.OpenParenthesis) in ((a_token k.OpenParenthesis, d + 0 + 1) ∷ w, x, e, l)

  first_one : BeginsWith (rule >>= λ x. give (item.One x)) k.Number
  first_one d t is = let (x, e, l) = numbers d t is in
      ([], item.One x, e, ((t, d + 0) ∷ [], [], x, e, refl, l, (refl, refl, refl)))

  begins_repeated : (d : ℕ) (w : Word) (x : Item) (e : ℕ) → g.repeated_item rule d w x e
      → (rest : List Lexeme) → sees_two k.Number k.OpenParenthesis (lexemes_of w ++ rest) ≡ true
  begins_repeated d w x e (
    y,
    (
      u,
      v,
      text,
      m,
      eq,
      (u1, v1, t1, m1, eq1, (a1, a2, a3), (b1, b2, b3)),
      (mid, (u2, v2, t2, m2, eq2, (c1, c2, c3), l), same),
    ),
    made,
  ) rest =
      rw (eq, eq1, a1, b1, eq2, c1, a2) c2

  held_repeated : (last d : ℕ) → Inner n d → (a t : Lexeme) (r : List Lexeme)
      → is_kind k.Number a ≡ true → is_kind k.OpenParenthesis t ≡ true
      → Held t r (p.repeated_item inner (input last d (a ∷ t ∷ r)))
  held_repeated last d v a t r is next =
      let (w, x, e, l) = repeated_begins d a t is next in
      held_there form_repeated.exact refl last d v ((a, d + 0) ∷ (t, d + 0 + 1) ∷ [])
      (a ∷ []) t refl w x e l r

  none_one : HasNone (rule >>= λ x. give (item.One x)) k.Number k.OpenParenthesis (Inner n)
  none_one d v a b w x e (u, u2, y, m, eq, l, (empty, is, same)) first second =
      let whole : u ≡ a ∷ b ∷ w = sym (append-nil u) ∙ ap (λ (v : Word). u ++ v) (sym empty)
      ∙ sym eq in
      let seen = both_of k.Number k.OpenParenthesis
      (a.0 ∷ b.0 ∷ (lexemes_of w ++ [])) first second in
      let clash : true ≡ false = sym seen ∙ sym
      (ap (λ (u : Word). sees_two k.Number k.OpenParenthesis (lexemes_of u ++ [])) whole)
      ∙ lacks d u y m l [] refl in
      cc

  exact_item : Exact (Inner n) (p.one_item inner) (g.one_item rule) (sees_any item_ends)
  unfolding p.one_item
  exact_item = exact_pair [] goes_on k.Number k.OpenParenthesis form_repeated.exact exact_one
      (λ d v. v.1) first_repeated first_one (starts_long (starts_bind starts)) begins_repeated
      held_repeated none_one

  level_item : IsLevel (g.one_item rule)
  level_item = level_or level_repeated (level_bind level (λ x. level_give (item.One x)))

  exact_items : Exact (Inner n) (p.commas (p.one_item inner)) (g.commas (g.one_item rule))
      (sees_any (k.Comma ∷ item_ends))
  exact_items = exact_commas_of n item_ends exact_item refl level_item

  form_elements : Form (Inner (suc n)) (p.elements inner) (g.elements rule) (k.OpenBracket ∷ []) []
  unfolding p.elements
  form_elements = form_node make_elements (form_scoped
      (form_take {W = Inner n} k.OpenBracket 1 1
      (λ _. exact_last (k.Comma ∷ item_ends) k.CloseBracket (λ xs. xs) exact_items refl)
      (inward n)))

  -- ---- structures

  form_field : Form (Inner n) (p.field_init inner) (g.field_init rule) (k.Name ∷ []) goes_on
  unfolding p.field_init
  form_field = form_node make_field_init (form_then {W = Inner n} {es = goes_on} form_identifier
      (λ i. (form_take {W = Inner n} {es = goes_on} k.Becomes 0 0
      (λ _. bind_give (λ x. (i, x)) h) (stays n)).exact) (level_carries (Inner n) level_identifier))

  level_field : IsLevel (g.field_init rule)
  level_field = level_node make_field_init (level_bind level_identifier
      (λ i. level_then k.Becomes (λ _. level_bind level (λ x. level_give (i, x)))))

  exact_fields : Exact (Inner n) (p.commas (p.field_init inner)) (g.commas (g.field_init rule))
      (sees_any (k.Comma ∷ goes_on))
  exact_fields = exact_commas_of n goes_on form_field.exact refl level_field

  form_structure : Form (Inner (suc n)) (p.structure inner) (g.structure rule)
      (k.OpenParenthesis ∷ []) []
  unfolding p.structure
  form_structure = form_node make_structure (form_scoped
      (form_take {W = Inner n} k.OpenParenthesis 1 1
      (λ _. exact_last (k.Comma ∷ goes_on) k.CloseParenthesis (λ xs. xs) exact_fields refl)
      (inward n)))

  -- ---- either

  form_value : Form (Inner (suc n)) (λ c. and_then (read_expression c) (λ x. pure (init.Value x)))
      (expression >>= λ x. give (init.Value x)) firsts goes_on
  form_value = form_as init.Value (form_narrow form_expression (λ d v. (omega arith, v.1)))

  -- "(", a name and ":=" begin a structure
  field_begins : (d : ℕ) (b c : Lexeme) → is_kind k.Name b ≡ true → is_kind k.Becomes c ≡ true
      → (w : Word) × (x : FieldInit) × (e : ℕ)
      × g.field_init rule d ((b, d + 0) ∷ (c, d + 0 + 0) ∷ w) x e
  field_begins d b c is next =
      let s = h.some (d + 0 + 0) in
      let name = make_identifier b.start b.end b.bytes in (
        s.word,
        _,
        s.depth,
        (
          (name, s.value),
          (
            (b, d + 0) ∷ [],
            (c, d + 0 + 0) ∷ s.word,
            name,
            d + 0,
            refl,
            (
              b.bytes,
              ((b, d + 0) ∷ [], [], b, d + 0, refl, (refl, is, refl), (refl, refl, refl)),
              refl,
            ),
            (
              (c, d + 0 + 0) ∷ [],
              s.word,
              c,
              d + 0 + 0,
              refl,
              (refl, next, refl),
              (
                s.word,
                [],
                s.value,
                s.depth,
                sym (append-nil s.word),
                s.spelled,
                (refl, refl, refl),
              ),
            ),
          ),
          refl,
        ),
      )

  structure_begins : BeginsThree (g.structure rule) k.OpenParenthesis k.Name k.Becomes (λ d. d + 1)
      (λ d. d + 1 + 0)
  structure_begins d a b c is next third =
      let (w, x, e, l) = field_begins (d + 1) b c next third in
      let z = a_token k.CloseParenthesis in
      let close : Word = (z, e + 0) ∷ [] in
      let field : Word = (b, d + 1 + 0) ∷ (c, d + 1 + 0 + 0) ∷ w in (
        d + 1 + 0 + 0,
        w ++ close,
        _,
        d,
        (
          x ∷ [],
          (
            e + 0,
            (
              (a, d + 1) ∷ [],
              field ++ close,
              a,
              d + 1,
              refl,
              (refl, is, refl),
              (
                field,
                close,
                x ∷ [],
                e,
                refl,
                (
                  field,
                  [],
                  x,
                  e,
                  sym (append-nil field),
                  l,
                  (zero, (refl, refl, refl)),
                ),
                (
                  close,
                  [],
                  z,
                  e + 0,
                  refl,
                  (refl, same_kind_refl k.CloseParenthesis, refl),
                  (refl, refl, refl),
                ),
              ),
            ),
            refl,
          ),
          refl,
        ),
      )

  value_begins : BeginsTwo (expression >>= λ x. give (init.Value x)) k.OpenParenthesis k.Name
      (λ d. d + 1) (λ d. d + 1 + 0)
  value_begins d a b is next =
      let (w, x, e, l) = group_begins d a b is next in (
        w,
        init.Value x,
        e,
        (
          (a, d + 1) ∷ (b, d + 1 + 0) ∷ w,
          [],
          x,
          e,
          sym (append-nil ((a, d + 1) ∷ (b, d + 1 + 0) ∷ w)),
          l,
          (refl, refl, refl),
        ),
      )

  begins_structure : (d : ℕ) (w : Word) (x : Init) (e : ℕ) → g.structure rule d w x e
      → (rest : List Lexeme) → sees_three k.OpenParenthesis k.Name k.Becomes (lexemes_of w ++ rest)
      ≡ true
  begins_structure d w x e (
    xs,
    (
      mid,
      (
        u,
        v,
        t,
        m,
        eq,
        (o1, o2, o3),
        (
          u1,
          v1,
          ys,
          m1,
          eq1,
          (
            u2,
            v2,
            y,
            m2,
            eq2,
            (
              pair,
              (
                u3,
                v3,
                i,
                m3,
                eq3,
                (
                  text,
                  (u4, v4, t4, m4, eq4, (a1, a2, a3), (b1, b2, b3)),
                  made_name,
                ),
                (u5, v5, t5, m5, eq5, (c1, c2, c3), l5),
              ),
              made_field,
            ),
            l2,
          ),
          l1,
        ),
      ),
      same,
    ),
    made,
  ) rest =
      rw (eq, o1, eq1, eq2, eq3, eq4, a1, b1, eq5, c1, o2, a2) c2

  form_other : Form (Inner (suc n)) (choose (sees_three k.OpenParenthesis k.Name k.Becomes)
      (p.structure inner) (λ c. and_then (read_expression c) (λ x. pure (init.Value x))))
      (g.structure rule or (expression >>= λ x. give (init.Value x)))
      (k.OpenParenthesis ∷ firsts) goes_on
  form_other = record {
    exact = exact_three [] goes_on k.OpenParenthesis k.Name k.Becomes (λ d. d + 1)
        (λ d. d + 1 + 0) form_structure.exact form_value.exact structure_begins value_begins
        (starts_long form_value.starts) begins_structure
        (three_bind (λ x. give (init.Value x)) three_expression);
    starts = starts_or form_structure.starts form_value.starts;
    opens = opens_or form_structure.opens form_value.opens;
  }

  form_any_init : Form (Inner (suc n)) (p.any_init inner) (g.any_init rule) init_kinds goes_on
  unfolding p.any_init
  form_any_init = form_or k.OpenBracket form_elements form_other refl

-- ---- to a depth

starts_elements : (rule : Rule Init) → Starts (g.elements rule) (k.OpenBracket ∷ [])
starts_elements rule = starts_node make_elements
    (starts_scoped (starts_bind (starts_token k.OpenBracket 1 1)))

starts_structure : (rule : Rule Init) → Starts (g.structure rule) (k.OpenParenthesis ∷ [])
starts_structure rule = starts_node make_structure
    (starts_scoped (starts_bind (starts_token k.OpenParenthesis 1 1)))

starts_any : (rule : Rule Init) → Starts (g.any_init rule) init_kinds
starts_any rule = starts_or (starts_elements rule)
    (starts_or (starts_structure rule) (starts_bind form_expression.starts))

starts_init_within : (m : ℕ) → Starts (g.init_within m) init_kinds
unfolding g.init_within
starts_init_within zero = record { sees = λ d w x e l rest. absurd l }
starts_init_within (suc m) =
    record { sees = λ d w x e l rest. (starts_any (g.init_within m)).sees d w x e l rest }

level_elements : (rule : Rule Init) → IsLevel (g.elements rule)
level_elements rule = level_node make_elements (level_scoped _)

level_structure : (rule : Rule Init) → IsLevel (g.structure rule)
level_structure rule = level_node make_structure (level_scoped _)

level_value : IsLevel (expression >>= λ x. give (init.Value x))
level_value = level_bind level_expression (λ x. level_give (init.Value x))

level_init_within : (m : ℕ) → IsLevel (g.init_within m)
unfolding g.init_within
level_init_within zero d w x e l = absurd l
level_init_within (suc m) d w x e l = level_or (level_elements (g.init_within m))
    (level_or (level_structure (g.init_within m)) level_value) d w x e l

lacks_any : (rule : Rule Init) → LacksTwo (g.any_init rule) k.Number k.OpenParenthesis
lacks_any rule = lacks_or k.Number k.OpenParenthesis
    (lacks_first k.Number k.OpenParenthesis (starts_elements rule) refl)
    (lacks_or k.Number k.OpenParenthesis (lacks_first k.Number k.OpenParenthesis
    (starts_structure rule) refl) (lacks_bind k.Number k.OpenParenthesis number_expression
    (λ x. avoids_give k.OpenParenthesis (init.Value x))))

lacks_within : (m : ℕ) → LacksTwo (g.init_within m) k.Number k.OpenParenthesis
unfolding g.init_within
lacks_within zero d w x e l rest none = absurd l
lacks_within (suc m) d w x e l rest none = lacks_any (g.init_within m) d w x e l rest none

numbers_within : (m : ℕ) → HasNumbers (g.init_within (suc m))
unfolding g.init_within
numbers_within m d t is = let (x, e, l) = number_alone d t is in
    (init.Value x, e, inr (inr ((t, d + 0) ∷ [], [], x, e, refl, l, (refl, refl, refl))))

numbers_below : (n m : ℕ) → n < m → HasNumbers (g.init_within m)
numbers_below n zero lt = absurd (omega (arith, lt))
numbers_below n (suc m) lt = numbers_within m

some_init : (m d : ℕ) → Some_ (g.init_within (suc m)) d
some_init m d = let s = numbers_within m d (a_token k.Number) (same_kind_refl k.Number) in
    record { word = (a_token k.Number, d + 0) ∷ []; value = s.0; depth = s.1; spelled = s.2 }

step_init : (n m : ℕ) → n < m → Exact (Inner n) (p.init_within n) (g.init_within m)
    (sees_any goes_on) → Form (Inner (suc n)) (p.init_within (suc n))
    (g.init_within (suc m)) init_kinds goes_on
unfolding p.init_within g.init_within
step_init n m lt h = form_any_init n (p.init_within n) (g.init_within m) h (starts_init_within m)
    (level_init_within m) (numbers_below n m lt) (lacks_within m)

-- an initial value, of any depth
pub form_initial : Form Here p.initial g.initial init_kinds goes_on
unfolding p.initial
form_initial =
    form_all p.init_within g.init_within init_kinds goes_on level_init_within some_init step_init
    init_sub starts_init_within

pub level_initial : IsLevel g.initial
level_initial d w x e (n, l) = level_init_within n d w x e l

-- ---- behind a spec

form_becomes : Form Here p.becomes g.becomes (k.Becomes ∷ []) goes_on
unfolding p.becomes
form_becomes = form_take {W = Here} k.Becomes 0 0
    (λ _. bind_give (λ x. Some x) form_initial.exact) (stays 257)

pub exact_optional_init : Exact Here p.optional_init g.optional_init
    (sees_any (k.Becomes ∷ goes_on))
unfolding p.optional_init
exact_optional_init = exact_optional k.Becomes None form_becomes

pub level_optional_init : IsLevel g.optional_init
level_optional_init = level_or (level_then k.Becomes
    (λ _. level_bind level_initial (λ x. level_give (Some x)))) (level_give None)

pub loose_optional_init : Loose g.optional_init (k.Becomes ∷ [])
loose_optional_init = loose_optional None form_becomes.starts
