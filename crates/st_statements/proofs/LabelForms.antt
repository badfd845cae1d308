-- The parsers of labels read their grammar.
use Rattle.std.proofs.Common.{ℕ, ◌+◌, ◌≤◌, true, false, List, [], ◌∷◌, ◌++◌, refl}
use Rattle.token_grammar.specs.declared.token.TokenKind.{TokenKind}
use Rattle.token_grammar.specs.declared.token.TokenKind.TheVariants as k
use Rattle.token_grammar.specs.steps.Parsers.{and_then, pure, take}
use Rattle.token_grammar.specs.Grammar.{◌>>=◌, give, token, many}
use Rattle.token_grammar.proofs.Laws.{Exact}
use Rattle.token_grammar.proofs.Starts.{sees_any, Starts, IsLevel, starts_bind, starts_token, starts_option, bind_starts, bind_give, or_false}
use Rattle.token_grammar.proofs.Forms.{Form, Anywhere, form_take, form_then, form_last, form_or, form_node, form_next, form_many_then, exact_optional, exact_after, Avoids, avoids_starts, avoids_or, avoids_bind, avoids_give, level_bind, level_give, level_or, level_node, level_many, level_then}
use Rattle.st_tree.specs.declared.expression.Identifier.{Identifier}
use Rattle.st_tree.specs.declared.statement.Label.{Label}
use Rattle.st_tree.specs.declared.statement.Point.{Point}
use Rattle.st_tree.specs.declared.statement.Point.TheVariants as point
use Rattle.st_statements.specs.Trees.{make_point_number, make_point_typed, point_value, single, range_to}
use Rattle.st_statements.specs.Grammar as g
use Rattle.st_statements.specs.steps.Parse as p
use Rattle.st_expr.proofs.Leaves.{form_word, level_word, form_identifier, level_identifier}
use Rattle.st_expr.proofs.Rules.{one_comma}

free : (d : ℕ) → Anywhere d → d + 0 ≤ 256 → Anywhere (d + 0)
free d v le = tt

form_negative : Form Anywhere p.negative_point g.negative_point (k.Minus ∷ []) []
unfolding p.negative_point
form_negative = form_node (make_point_number true) (form_take {W = Anywhere} k.Minus 0 0
    (λ _. (form_word k.Number).exact) free)

form_number : Form Anywhere p.number_point g.number_point (k.Number ∷ []) []
unfolding p.number_point
form_number = form_node (make_point_number false) (form_word k.Number)

form_typed : Form Anywhere p.typed_point g.typed_point (k.TypedNumber ∷ []) []
unfolding p.typed_point
form_typed = form_node make_point_typed (form_word k.TypedNumber)

abbrev pub value_kinds : List TokenKind
value_kinds = k.Minus ∷ k.Number ∷ k.TypedNumber ∷ []

pub form_value_point : Form Anywhere p.value_point g.value_point value_kinds []
unfolding p.value_point
form_value_point = form_or k.Minus form_negative (form_or k.Number form_number form_typed refl) refl

pub level_value_point : IsLevel g.value_point
level_value_point = level_or (level_node (make_point_number true)
    (level_then k.Minus (λ _. level_word k.Number)))
    (level_or (level_node (make_point_number false) (level_word k.Number))
    (level_node make_point_typed (level_word k.TypedNumber)))

pub exact_point_behind : (name : Identifier)
    → Exact Anywhere (p.point_behind name) (g.point_behind name) (sees_any (k.Hash ∷ []))
unfolding p.point_behind
exact_point_behind name = exact_optional {es = []} k.Hash (point.Name name)
    (form_take {W = Anywhere} k.Hash 0 0 (λ _. bind_give (point_value name) form_identifier.exact)
    free)

pub level_point_behind : (name : Identifier) → IsLevel (g.point_behind name)
level_point_behind name =
    level_or (level_then k.Hash (λ _. level_bind level_identifier
    (λ v. level_give (point_value name v)))) (level_give (point.Name name))

form_named_point : Form Anywhere p.named_point g.named_point (k.Name ∷ []) (k.Hash ∷ [])
unfolding p.named_point
form_named_point = form_then form_identifier exact_point_behind (λ d u x m v l within. tt)

form_any_point : Form Anywhere p.any_point g.any_point (k.Name ∷ value_kinds) (k.Hash ∷ [])
unfolding p.any_point
form_any_point = form_or k.Name form_named_point form_value_point refl

level_any_point : IsLevel g.any_point
level_any_point = level_or (level_bind level_identifier level_point_behind) level_value_point

abbrev label_ends : List TokenKind
label_ends = k.DotDot ∷ k.Hash ∷ []

exact_label_behind : (first : Point)
    → Exact Anywhere (p.label_behind first) (g.label_behind first) (sees_any label_ends)
unfolding p.label_behind
exact_label_behind first = exact_optional {es = k.Hash ∷ []} k.DotDot (single first)
    (form_take {W = Anywhere} k.DotDot 0 0 (λ _. bind_give (range_to first) form_any_point.exact)
    free)

level_label_behind : (first : Point) → IsLevel (g.label_behind first)
level_label_behind first =
    level_or (level_then k.DotDot (λ _. level_bind level_any_point
    (λ last. level_give (range_to first last)))) (level_give (single first))

avoids_label : (first : Point) (ls : List Label)
    → Avoids (g.label_behind first >>= λ l. give (ls ++ l ∷ [])) k.Hash
avoids_label first ls = avoids_bind k.Hash
    (avoids_or k.Hash (avoids_starts k.Hash (starts_bind (starts_token k.DotDot 0 0)) refl)
    (avoids_give k.Hash (single first))) (λ l. avoids_give k.Hash (ls ++ l ∷ []))

form_more_labels : (ls : List Label)
    → Form Anywhere (p.more_labels ls) (g.more_labels ls) (k.Comma ∷ []) label_ends
unfolding p.more_labels
form_more_labels ls = form_take {W = Anywhere} k.Comma 0 0 (λ _. exact_after {W = Anywhere} k.Hash
    form_any_point.exact (λ first. bind_give (λ l. ls ++ l ∷ []) (exact_label_behind first))
    (λ first. avoids_label first ls)
    (λ rest e. (or_false _ _ (or_false _ _ e).1).0) (λ d u x m v l within. tt)) free

level_more_labels : (ls : List Label) → IsLevel (g.more_labels ls)
level_more_labels ls = level_then k.Comma (λ _. level_bind level_any_point
    (λ first. level_bind (level_label_behind first) (λ l. level_give (ls ++ l ∷ []))))

form_rest : (l : Label)
    → Form Anywhere (λ i. and_then (p.label_list l i) (λ ls. λ i. and_then (take k.Colon i)
    (λ _. pure ls))) (many g.more_labels (l ∷ []) >>= λ ls. token k.Colon >>= λ _. give ls)
    (k.Comma ∷ k.Colon ∷ []) []
unfolding p.label_list
form_rest l = form_many_then (l ∷ []) form_more_labels (λ ls. form_last k.Colon ls) one_comma refl
    (λ ls d u x m v l within. tt) refl

pub exact_labels_behind : (first : Point)
    → Exact Anywhere (p.labels_behind first) (g.labels_behind first) (sees_any [])
unfolding p.labels_behind
exact_labels_behind first = bind_starts {W = Anywhere} label_ends (exact_label_behind first)
    (λ l. (form_rest l).exact) (λ d u x m v l within. tt) (λ l. (form_rest l).starts) refl

pub starts_labels_behind : (first : Point)
    → Starts (g.labels_behind first) (k.DotDot ∷ k.Comma ∷ k.Colon ∷ [])
starts_labels_behind first =
    starts_option (starts_bind (starts_token k.DotDot 0 0)) (λ l. (form_rest l).starts)

pub level_labels_behind : (first : Point) → IsLevel (g.labels_behind first)
level_labels_behind first = level_bind (level_label_behind first)
    (λ l. level_bind (level_many level_more_labels (l ∷ []))
    (λ ls. level_then k.Colon (λ _. level_give ls)))

pub form_labels : Form Anywhere p.labels g.labels (k.Name ∷ value_kinds) []
unfolding p.labels
form_labels = form_next form_any_point exact_labels_behind starts_labels_behind refl
    (λ d u x m v l within. tt)

pub level_labels : IsLevel g.labels
level_labels = level_bind level_any_point level_labels_behind
