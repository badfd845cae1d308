-- The parsers of units and of the parts of a file read their grammar.
use Rattle.std.proofs.Common.{◌≡◌, ◌⊎◌, true, false, List, [], ◌∷◌, ◌++◌, refl, inl, inr}
use Rattle.token_grammar.specs.declared.token.TokenKind.{TokenKind}
use Rattle.token_grammar.specs.declared.token.TokenKind.TheVariants as k
use Rattle.token_grammar.specs.Texts.{Lexeme}
use Rattle.token_grammar.specs.steps.Parsers.{and_then, pure, take, sees_in}
use Rattle.token_grammar.specs.Grammar.{Rule, lexemes_of, ◌>>=◌, ◌or◌, give, token}
use Rattle.token_grammar.proofs.Laws.{Exact}
use Rattle.token_grammar.proofs.Starts.{sees_any, disjoint, sees_other, only_false, IsLevel, bind_starts, bind_give}
use Rattle.token_grammar.proofs.Forms.{Form, Avoids, level_carries, form_take, form_then, form_as, form_or, form_node, exact_or_else, level_bind, level_give, level_or, level_node, level_then}
use Rattle.token_grammar.proofs.Loose.{Loose, loose_give, loose_bind, loose_or, loose_then}
use Rattle.st_tree.specs.declared.declaration.Section.{Section}
use Rattle.st_tree.specs.declared.file.Body.{Body}
use Rattle.st_tree.specs.declared.file.Body.TheVariants as body_kind
use Rattle.st_tree.specs.declared.file.Unit.{Unit as UnitTree}
use Rattle.st_tree.specs.declared.file.UnitKind.{UnitKind}
use Rattle.st_tree.specs.declared.file.UnitKind.TheVariants as unit_kind
use Rattle.st_tree.specs.declared.file.FilePart.{FilePart}
use Rattle.st_tree.specs.declared.file.FilePart.TheVariants as part
use Rattle.st_expr.proofs.Leaves.{form_identifier, level_identifier}
use Rattle.st_expr.proofs.Operators.{or_is, last_is}
use Rattle.st_expr.proofs.Lists.{Here, stays, exact_each, exact_last, starts_last, level_last}
use Rattle.st_statements.specs.Grammar.{statements}
use Rattle.st_statements.proofs.ReadingForms.{statement_kinds}
use Rattle.st_statements.proofs.StatementExactness.{exact_statements, loose_statements, level_statements}
use Rattle.sfc_text.specs.Grammar.{sfc}
use Rattle.sfc_text.proofs.Forms.{part_kinds as chart_kinds, form_sfc, level_sfc}
use Rattle.st_declarations.specs.Grammar as rules
use Rattle.st_declarations.specs.steps.Parse as parse
use Rattle.st_declarations.proofs.SpecForms.{form_typename, level_typename}
use Rattle.st_declarations.proofs.DeclForms.{section_kinds, exact_sections, level_sections, form_globals, level_globals, form_types, level_types}
use Rattle.st_declarations.proofs.ConfigForms.{form_config, level_config}
use Rattle.st_units.specs.Trees.{make_unit}
use Rattle.st_units.specs.Grammar as g
use Rattle.st_units.specs.steps.Parse as p

-- ---- bodies

-- with what a body begins that isn't empty, and where one goes on
abbrev body_firsts : List TokenKind
body_firsts = k.InitialStep ∷ statement_kinds

abbrev body_ends : List TokenKind
body_ends = k.InitialStep ∷ (chart_kinds ++ statement_kinds)

form_chart : Form Here p.chart_body (sfc >>= λ chart. give (body_kind.Chart chart))
    (k.InitialStep ∷ []) chart_kinds
unfolding p.chart_body
form_chart = form_as body_kind.Chart form_sfc

exact_list : Exact Here p.statements_body (statements >>= λ found.
    give (body_kind.Statements found)) (sees_any statement_kinds)
unfolding p.statements_body
exact_list = bind_give body_kind.Statements exact_statements

loose_list : Loose (statements >>= λ found. give (body_kind.Statements found))
    (statement_kinds ++ [])
loose_list = loose_bind loose_statements (λ found. loose_give (body_kind.Statements found))

avoids_loose : {A : Type 0} {L : Rule A} {ks : List TokenKind} (kind : TokenKind) → Loose L ks
    → disjoint ks (kind ∷ []) ≡ true → Avoids L kind
avoids_loose {L} {ks} kind h apart d w x e l rest other = by (h.sees d w x e l)
  where
    by : (w ≡ []) ⊎ ((rest : List Lexeme) → sees_any ks (lexemes_of w ++ rest) ≡ true)
        → sees_in kind (lexemes_of w ++ rest) ≡ false
    by (inl empty) = rw empty other
    by (inr seen) = only_false _ (sees_other ks (kind ∷ []) _ apart (seen rest))

exact_body : Exact Here p.body g.body (sees_any body_ends)
unfolding p.body
exact_body = exact_or_else statement_kinds k.InitialStep form_chart exact_list
    (avoids_loose k.InitialStep loose_list refl)

loose_body : Loose g.body body_firsts
loose_body = loose_or form_chart.starts loose_list

level_body : IsLevel g.body
level_body = level_or (level_bind level_sfc (λ chart. level_give (body_kind.Chart chart)))
    (level_bind level_statements (λ found. level_give (body_kind.Statements found)))

-- { section } body, and the word that ends the unit
exact_inside : {B : Type 0} (end : TokenKind) (make : List Section → Body → B)
    → disjoint (end ∷ []) body_ends ≡ true → disjoint (body_firsts ++ end ∷ []) section_kinds ≡ true
    → Exact Here
    (λ c. and_then (parse.sections c) (λ ss. λ c. and_then (p.body c)
    (λ b. λ c. and_then (take end c) (λ _. pure (make ss b)))))
    (rules.sections >>= λ ss. g.body >>= λ b. token end >>= λ _. give (make ss b)) (sees_any [])
exact_inside end make free apart = bind_starts {W = Here} section_kinds exact_sections
    (λ ss. exact_last body_ends end (make ss) exact_body free) (level_carries Here level_sections)
    (λ ss. loose_then loose_body (λ b. starts_last end (make ss b))) apart

level_inside : {B : Type 0} (end : TokenKind) (make : List Section → Body → B)
    → IsLevel (rules.sections >>= λ ss. g.body >>= λ b. token end >>= λ _. give (make ss b))
level_inside end make =
    level_bind level_sections (λ ss. level_bind level_body (λ b. level_last end (make ss b)))

-- ---- units

form_function : Form Here p.function g.function (k.Function ∷ []) []
unfolding p.function
form_function = form_node make_unit (form_take {W = Here} {es = []} k.Function 0 0
    (λ _. (form_then {W = Here} {es = []} form_identifier
    (λ name. (form_take {W = Here} {es = []} k.Colon 0 0
    (λ _. (form_then {W = Here} {es = []} form_typename
    (λ t. exact_inside k.EndFunction (λ ss b. (unit_kind.Function t, name, ss, b)) refl refl)
    (level_carries Here level_typename)).exact) (stays 257)).exact)
    (level_carries Here level_identifier)).exact) (stays 257))

level_function : IsLevel g.function
level_function = level_node make_unit (level_then k.Function (λ _. level_bind level_identifier
    (λ name. level_then k.Colon (λ _. level_bind level_typename
    (λ t. level_inside k.EndFunction (λ ss b. (unit_kind.Function t, name, ss, b)))))))

form_unit_as : (begin end : TokenKind) (kind : UnitKind)
    → disjoint (end ∷ []) body_ends ≡ true → disjoint (body_firsts ++ end ∷ []) section_kinds ≡ true
    → Form Here (p.unit_as begin end kind) (g.unit_as begin end kind) (begin ∷ []) []
unfolding p.unit_as
form_unit_as begin end kind free apart = form_node make_unit
    (form_take {W = Here} {es = []} begin 0 0
    (λ _. (form_then {W = Here} {es = []} form_identifier
    (λ name. exact_inside end (λ ss b. (kind, name, ss, b)) free apart)
    (level_carries Here level_identifier)).exact) (stays 257))

level_unit_as : (begin end : TokenKind) (kind : UnitKind) → IsLevel (g.unit_as begin end kind)
level_unit_as begin end kind = level_node make_unit
    (level_then begin (λ _. level_bind level_identifier
    (λ name. level_inside end (λ ss b. (kind, name, ss, b)))))

form_block : Form Here p.block g.block (k.FunctionBlock ∷ []) []
unfolding p.block
form_block = form_unit_as k.FunctionBlock k.EndFunctionBlock unit_kind.Block refl refl

form_program : Form Here p.program g.program (k.Program ∷ []) []
unfolding p.program
form_program = form_unit_as k.Program k.EndProgram unit_kind.Program refl refl

-- ---- parts of a file

abbrev other_rule : Rule FilePart
other_rule = (rules.types >>= λ t. give (part.Types t))
    or ((rules.globals >>= λ x. give (part.Globals x))
    or (rules.config >>= λ c. give (part.Config c)))

form_other_part : Form Here p.other_part other_rule (k.Type ∷ k.VarGlobal ∷ k.Configuration ∷ []) []
unfolding p.other_part
form_other_part = form_or k.Type (form_as part.Types form_types)
    (form_or k.VarGlobal (form_as part.Globals form_globals)
    (form_as part.Config form_config) refl) refl

level_other_part : IsLevel other_rule
level_other_part = level_or (level_bind level_types (λ t. level_give (part.Types t)))
    (level_or (level_bind level_globals (λ x. level_give (part.Globals x)))
    (level_bind level_config (λ c. level_give (part.Config c))))

abbrev pub part_kinds : List TokenKind
part_kinds = k.Function ∷ k.FunctionBlock ∷ k.Program ∷ k.Type ∷ k.VarGlobal ∷ k.Configuration ∷ []

form_file_part : Form Here p.file_part g.file_part part_kinds []
unfolding p.file_part
form_file_part = form_or k.Function (form_as part.Unit form_function)
    (form_or k.FunctionBlock (form_as part.Unit form_block)
    (form_or k.Program (form_as part.Unit form_program) form_other_part refl) refl) refl

level_unit_part : {rule : Rule UnitTree} → IsLevel rule → IsLevel (rule >>= λ u. give (part.Unit u))
level_unit_part level = level_bind level (λ u. level_give (part.Unit u))

level_file_part : IsLevel g.file_part
level_file_part = level_or (level_unit_part level_function)
    (level_or (level_unit_part (level_unit_as k.FunctionBlock k.EndFunctionBlock unit_kind.Block))
    (level_or (level_unit_part (level_unit_as k.Program k.EndProgram unit_kind.Program))
    level_other_part))

sees_parts : (ts : List Lexeme) → p.sees_file_part ts ≡ sees_any part_kinds ts
unfolding p.sees_file_part
sees_parts ts = or_is (sees_in k.Function ts) _ _ (or_is (sees_in k.FunctionBlock ts) _ _
    (or_is (sees_in k.Program ts) _ _ (or_is (sees_in k.Type ts) _ _
    (or_is (sees_in k.VarGlobal ts) _ _ (last_is (sees_in k.Configuration ts))))))

-- the parts of a file
pub exact_parts : Exact Here p.parts g.file (sees_any part_kinds)
unfolding p.parts parse.more
exact_parts = exact_each sees_parts form_file_part refl level_file_part
