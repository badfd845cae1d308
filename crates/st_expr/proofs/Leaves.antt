-- The parsers of names, literals and operands of one token read their grammar.
use Rattle.std.proofs.Common.{ℕ, Bool, false, [], ◌∷◌, arith}
use Rattle.token_grammar.specs.declared.token.TokenKind.{TokenKind}
use Rattle.token_grammar.specs.declared.token.TokenKind.TheVariants as k
use Rattle.token_grammar.proofs.Starts.{IsLevel}
use Rattle.token_grammar.proofs.Forms.{Form, Body, form_token, form_take, form_as, form_node, level_token, level_bind, level_give, level_node, level_then}
use Rattle.st_tree.specs.declared.expression.Part.TheVariants as part
use Rattle.st_expr.specs.Trees.{make_identifier, make_address, make_number, make_typed, make_time, make_truth}
use Rattle.st_expr.specs.Grammar as g
use Rattle.st_expr.specs.steps.Parse as p

pub form_word : {V : ℕ → Type 0} (kind : TokenKind)
    → Form V (p.word kind) (g.word kind) (kind ∷ []) []
unfolding p.word
form_word kind = form_as (λ l. l.bytes) (form_token kind 0 0)

pub level_word : (kind : TokenKind) → IsLevel (g.word kind)
level_word kind = level_bind (level_token kind) (λ l. level_give l.bytes)

pub form_identifier : {V : ℕ → Type 0} → Form V p.identifier g.identifier (k.Name ∷ []) []
unfolding p.identifier
form_identifier = form_node make_identifier (form_word k.Name)

pub level_identifier : IsLevel g.identifier
level_identifier = level_node make_identifier (level_word k.Name)

pub form_address : {V : ℕ → Type 0} → Form V p.address g.address (k.Address ∷ []) []
unfolding p.address
form_address = form_node make_address (form_word k.Address)

pub level_address : IsLevel g.address
level_address = level_node make_address (level_word k.Address)

pub form_field : (n : ℕ) → Form (Body n) p.field g.field (k.Dot ∷ []) []
unfolding p.field
form_field n = form_take {W = Body n} k.Dot 0 0 (λ _. (form_as part.Field form_identifier).exact)
    (λ d v le. omega (arith, v))

pub level_field : IsLevel g.field
level_field = level_then k.Dot (λ _. level_bind level_identifier (λ i. level_give (part.Field i)))

pub form_number : {V : ℕ → Type 0} → Form V p.number g.number (k.Number ∷ []) []
unfolding p.number
form_number = form_node (make_number false) (form_word k.Number)

pub form_typed : {V : ℕ → Type 0} → Form V p.typed g.typed (k.TypedNumber ∷ []) []
unfolding p.typed
form_typed = form_node make_typed (form_word k.TypedNumber)

pub form_time : {V : ℕ → Type 0} → Form V p.time g.time (k.Duration ∷ []) []
unfolding p.time
form_time = form_node make_time (form_word k.Duration)

pub form_truth : {V : ℕ → Type 0} (kind : TokenKind) (b : Bool)
    → Form V (p.truth kind b) (g.truth kind b) (kind ∷ []) []
unfolding p.truth
form_truth kind b = form_node make_truth (form_as (λ _. b) (form_token kind 0 0))
