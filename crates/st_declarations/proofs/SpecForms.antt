-- The parsers of type names, lists of names, ranges and specs read their grammar.
use Rattle.std.proofs.Common.{◌≡◌, ℕ, zero, suc, ◌<◌, false, List, [], ◌∷◌, Some, None, refl, inr}
use Rattle.token_grammar.specs.declared.token.TokenKind.{TokenKind}
use Rattle.token_grammar.specs.declared.token.TokenKind.TheVariants as k
use Rattle.token_grammar.specs.Texts.{Lexeme}
use Rattle.token_grammar.specs.steps.Parsers.{Parser, sees_in}
use Rattle.token_grammar.specs.Grammar.{Rule}
use Rattle.token_grammar.proofs.Laws.{Exact, Some_}
use Rattle.token_grammar.proofs.Starts.{sees_any, Starts, IsLevel, bind_give, starts_bind, starts_or, starts_scoped, starts_node, starts_token, or_false}
use Rattle.token_grammar.proofs.Forms.{Form, Inner, Anywhere, anywhere, level_carries, form_token, form_take, form_then, form_join, form_as, form_or, form_node, form_scoped, exact_optional, level_bind, level_give, level_or, level_node, level_scoped, level_then}
use Rattle.iec_tables.specs.declared.elem.Elem.{Elem}
use Rattle.iec_tables.specs.declared.elem.Elem.TheVariants as e
use Rattle.st_tree.specs.declared.declaration.TypeName.TheVariants as type
use Rattle.st_tree.specs.declared.declaration.Spec.{Spec}
use Rattle.st_declarations.specs.Trees.{make_elementary, make_range, make_type, make_enumeration, make_array}
use Rattle.st_declarations.specs.Grammar as g
use Rattle.st_declarations.specs.steps.Parse as p
use Rattle.st_expr.proofs.NameLists.{exact_names}
use Rattle.st_expr.proofs.Leaves.{form_identifier, level_identifier}
use Rattle.st_expr.proofs.Exactness.{firsts, goes_on, form_expression, level_expression}
use Rattle.st_expr.proofs.Lists.{Here, stays, into, inward, form_fewer, exact_last}
use Rattle.st_declarations.proofs.ListForms.{exact_commas_of}
use Rattle.st_declarations.proofs.Nesting.{form_all, spec_sub}

-- ---- names of types

form_elem : {V : ℕ → Type 0} (kind : TokenKind) (x : Elem)
    → Form V (p.elem_as kind x) (g.elem_as kind x) (kind ∷ []) []
unfolding p.elem_as
form_elem kind x = form_node make_elementary (form_as (λ _. x) (form_token kind 0 0))

level_elem : (kind : TokenKind) (x : Elem) → IsLevel (g.elem_as kind x)
level_elem kind x = level_node make_elementary (level_then kind (λ _. level_give x))

abbrev unsigned_kinds : List TokenKind
unsigned_kinds = k.Usint ∷ k.Uint ∷ k.Udint ∷ k.Ulint ∷ k.Time ∷ []

form_unsigned : {V : ℕ → Type 0} → Form V p.unsigned_or_time g.unsigned_or_time unsigned_kinds []
unfolding p.unsigned_or_time
form_unsigned = form_or k.Usint (form_elem k.Usint e.Usint)
    (form_or k.Uint (form_elem k.Uint e.Uint) (form_or k.Udint (form_elem k.Udint e.Udint)
    (form_or k.Ulint (form_elem k.Ulint e.Ulint) (form_elem k.Time e.Time) refl) refl) refl) refl

level_unsigned : IsLevel g.unsigned_or_time
level_unsigned = level_or (level_elem k.Usint e.Usint)
    (level_or (level_elem k.Uint e.Uint) (level_or (level_elem k.Udint e.Udint)
    (level_or (level_elem k.Ulint e.Ulint) (level_elem k.Time e.Time))))

abbrev number_kinds : List TokenKind
number_kinds = k.Sint ∷ k.Int ∷ k.Dint ∷ k.Lint ∷ unsigned_kinds

form_numbers : {V : ℕ → Type 0} → Form V p.number_or_time g.number_or_time number_kinds []
unfolding p.number_or_time
form_numbers = form_or k.Sint (form_elem k.Sint e.Sint)
    (form_or k.Int (form_elem k.Int e.Int) (form_or k.Dint (form_elem k.Dint e.Dint)
    (form_or k.Lint (form_elem k.Lint e.Lint) form_unsigned refl) refl) refl) refl

level_numbers : IsLevel g.number_or_time
level_numbers = level_or (level_elem k.Sint e.Sint)
    (level_or (level_elem k.Int e.Int) (level_or (level_elem k.Dint e.Dint)
    (level_or (level_elem k.Lint e.Lint) level_unsigned)))

abbrev elementary_kinds : List TokenKind
elementary_kinds = k.Bool ∷ k.Byte ∷ k.Word ∷ k.Dword ∷ k.Lword ∷ number_kinds

form_elementary : {V : ℕ → Type 0} → Form V p.elementary g.elementary elementary_kinds []
unfolding p.elementary
form_elementary = form_or k.Bool (form_elem k.Bool e.Bool)
    (form_or k.Byte (form_elem k.Byte e.Byte) (form_or k.Word (form_elem k.Word e.Word)
    (form_or k.Dword (form_elem k.Dword e.Dword)
    (form_or k.Lword (form_elem k.Lword e.Lword) form_numbers refl) refl) refl) refl) refl

level_elementary : IsLevel g.elementary
level_elementary = level_or (level_elem k.Bool e.Bool)
    (level_or (level_elem k.Byte e.Byte) (level_or (level_elem k.Word e.Word)
    (level_or (level_elem k.Dword e.Dword) (level_or (level_elem k.Lword e.Lword) level_numbers))))

abbrev pub type_kinds : List TokenKind
type_kinds = k.Name ∷ elementary_kinds

pub form_typename : {V : ℕ → Type 0} → Form V p.typename g.typename type_kinds []
unfolding p.typename
form_typename = form_or k.Name (form_as type.Named form_identifier) form_elementary refl

pub level_typename : IsLevel g.typename
level_typename = level_or (level_bind level_identifier
    (λ i. level_give (type.Named i))) level_elementary

-- ---- ranges

pub form_range : Form Here p.range g.range firsts goes_on
unfolding p.range
form_range = form_node make_range (form_join form_expression
    (λ a. form_take {W = Here} k.DotDot 0 0 (λ _. bind_give (λ b. (a, b)) form_expression.exact)
    (stays 257)) refl (level_carries Here level_expression))

pub level_range : IsLevel g.range
level_range = level_node make_range (level_bind level_expression
    (λ a. level_then k.DotDot (λ _. level_bind level_expression (λ b. level_give (a, b)))))

form_bounds : {V : ℕ → Type 0} → Form V p.bounds g.bounds (k.OpenParenthesis ∷ []) []
unfolding p.bounds
form_bounds {V} = form_scoped (form_take {W = Here} k.OpenParenthesis 1 1
    (λ _. exact_last goes_on k.CloseParenthesis (λ r. Some r) form_range.exact refl) (into V))

exact_bounds : {V : ℕ → Type 0} → Exact V p.optional_bounds g.optional_bounds
    (sees_any (k.OpenParenthesis ∷ []))
unfolding p.optional_bounds
exact_bounds = exact_optional k.OpenParenthesis None form_bounds

level_bounds : IsLevel g.optional_bounds
level_bounds = level_or (level_scoped _) (level_give None)

form_plain : {V : ℕ → Type 0} → Form V p.plain_spec g.plain_spec type_kinds (k.OpenParenthesis ∷ [])
unfolding p.plain_spec
form_plain {V} = form_node make_type (form_then {W = Anywhere} form_typename
    (λ t. bind_give (λ r. (t, r)) exact_bounds) (anywhere V g.typename))

level_plain : IsLevel g.plain_spec
level_plain = level_node make_type (level_bind level_typename
    (λ t. level_bind level_bounds (λ r. level_give (t, r))))

form_enumeration : {V : ℕ → Type 0} → Form V p.enumeration g.enumeration (k.OpenParenthesis ∷ []) []
unfolding p.enumeration
form_enumeration {V} = form_node make_enumeration
    (form_scoped (form_take {W = Here} k.OpenParenthesis 1 1
    (λ _. exact_last (k.Comma ∷ []) k.CloseParenthesis (λ ns. ns) (exact_names 257) refl) (into V)))

exact_range_list : Exact Here (p.commas p.range) (g.commas g.range) (sees_any (k.Comma ∷ goes_on))
exact_range_list = exact_commas_of 257 goes_on form_range.exact refl level_range

form_ranges : {V : ℕ → Type 0} → Form V p.ranges g.ranges (k.OpenBracket ∷ []) []
unfolding p.ranges
form_ranges {V} = form_scoped (form_take {W = Here} k.OpenBracket 1 1
    (λ _. exact_last (k.Comma ∷ goes_on) k.CloseBracket (λ rs. rs) exact_range_list refl) (into V))

-- ---- specs

abbrev pub spec_kinds : List TokenKind
spec_kinds = k.Array ∷ k.OpenParenthesis ∷ type_kinds

-- where a spec goes on
abbrev pub spec_ends : List TokenKind
spec_ends = k.OpenParenthesis ∷ []

twice : (rest : List Lexeme) → sees_any spec_ends rest ≡ false
    → sees_any (k.OpenParenthesis ∷ spec_ends) rest ≡ false
twice rest e = let none = (or_false (sees_in k.OpenParenthesis rest) false e).0 in rw none refl

module _ (n : ℕ) (inner : Parser Spec) (rule : Rule Spec)
    (h : Exact (Inner n) inner rule (sees_any spec_ends)) where
  form_array : Form (Inner (suc n)) (p.array inner) (g.array rule) (k.Array ∷ []) spec_ends
  unfolding p.array
  form_array = form_node make_array (form_scoped
      (form_take {W = Inner n} {es = spec_ends} k.Array 1 1
      (λ _. (form_then {W = Inner n} {es = spec_ends} (form_ranges {V = Inner n})
      (λ rs. (form_take {W = Inner n} {es = spec_ends} k.Of 0 0
      (λ _. bind_give (λ s. (rs, s)) h) (stays n)).exact)
      (level_carries (Inner n) (level_scoped _))).exact) (inward n)))

  form_any : Form (Inner (suc n)) (p.any_spec inner) (g.any_spec rule) spec_kinds spec_ends
  unfolding p.any_spec
  form_any = form_fewer spec_ends (form_or k.Array form_array
      (form_or k.OpenParenthesis form_enumeration form_plain refl) refl) twice

level_array : (rule : Rule Spec) → IsLevel (g.array rule)
level_array rule = level_node make_array (level_scoped _)

level_enumeration : IsLevel g.enumeration
level_enumeration = level_node make_enumeration (level_scoped _)

level_spec_within : (m : ℕ) → IsLevel (g.spec_within m)
unfolding g.spec_within
level_spec_within zero d w x e l = absurd l
level_spec_within (suc m) d w x e l = level_or (level_array (g.spec_within m))
    (level_or level_enumeration level_plain) d w x e l

starts_spec_within : (m : ℕ) → Starts (g.spec_within m) spec_kinds
unfolding g.spec_within
starts_spec_within zero = record { sees = λ d w x e l rest. absurd l }
starts_spec_within (suc m) = record { sees = λ d w x e l rest. (starts_any m).sees d w x e l rest }
  where
    starts_any : (m : ℕ) → Starts (g.any_spec (g.spec_within m)) spec_kinds
    starts_any m =
        starts_or (starts_node make_array (starts_scoped (starts_bind (starts_token k.Array 1 1))))
        (starts_or (form_enumeration {V = Here}).starts (form_plain {V = Here}).starts)

some_spec : (m d : ℕ) → Some_ (g.spec_within (suc m)) d
unfolding g.spec_within
some_spec m d = let s = (form_plain {V = Here}).exact.some d in
    record { word = s.word; value = s.value; depth = s.depth; spelled = inr (inr s.spelled) }

step_spec : (n m : ℕ) → n < m → Exact (Inner n) (p.spec_within n) (g.spec_within m)
    (sees_any spec_ends) → Form (Inner (suc n)) (p.spec_within (suc n))
    (g.spec_within (suc m)) spec_kinds spec_ends
unfolding p.spec_within g.spec_within
step_spec n m lt h = form_any n (p.spec_within n) (g.spec_within m) h

-- a spec, of any depth
pub form_spec : Form Here p.spec g.spec spec_kinds spec_ends
unfolding p.spec
form_spec = form_all p.spec_within g.spec_within spec_kinds spec_ends level_spec_within some_spec
    step_spec spec_sub starts_spec_within

pub level_spec : IsLevel g.spec
level_spec d w x e (n, l) = level_spec_within n d w x e l
