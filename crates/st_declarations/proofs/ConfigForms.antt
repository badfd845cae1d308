-- The parsers of configurations, resources and tasks read their grammar.
use Rattle.std.proofs.Common.{◌≡◌, true, List, [], ◌∷◌, ◌++◌, Some, None, refl}
use Rattle.token_grammar.specs.declared.token.TokenKind.{TokenKind}
use Rattle.token_grammar.specs.declared.token.TokenKind.TheVariants as k
use Rattle.token_grammar.specs.steps.Parsers.{and_then, pure, take}
use Rattle.token_grammar.specs.Grammar.{◌>>=◌, give, token}
use Rattle.token_grammar.proofs.Laws.{Exact}
use Rattle.token_grammar.proofs.Starts.{sees_any, disjoint, Starts, IsLevel, bind_starts, bind_give, starts_bind, starts_token}
use Rattle.token_grammar.proofs.Forms.{Form, Anywhere, anywhere, level_carries, form_take, form_then, form_as, form_node, form_scoped, form_last, exact_optional, level_bind, level_give, level_or, level_node, level_scoped, level_then}
use Rattle.token_grammar.proofs.Loose.{Loose, loose_give, loose_bind, loose_then, bind_loose}
use Rattle.st_tree.specs.declared.file.Tasks.{Tasks}
use Rattle.st_declarations.specs.Trees.{make_parameter, make_task, make_line, tasks_of, make_resource, make_config}
use Rattle.st_declarations.specs.Grammar as g
use Rattle.st_declarations.specs.steps.Parse as p
use Rattle.st_expr.proofs.Leaves.{form_identifier, level_identifier}
use Rattle.st_expr.proofs.Exactness.{goes_on, level_expression}
use Rattle.st_expr.proofs.Lists.{Here, stays, into, level_each, loose_each, exact_last, starts_last, level_last}
use Rattle.st_expr.proofs.Exactness.{form_expression}
use Rattle.st_declarations.proofs.ListForms.{exact_list_of, exact_commas_of}
use Rattle.st_declarations.proofs.DeclForms.{exact_globals_list, level_globals_list}

-- ---- tasks

form_parameter : Form Here p.parameter g.parameter (k.Name ∷ []) goes_on
unfolding p.parameter
form_parameter = form_node make_parameter (form_then {W = Here} {es = goes_on} form_identifier
    (λ name. (form_take {W = Here} {es = goes_on} k.Becomes 0 0
    (λ _. bind_give (λ x. (name, x)) form_expression.exact) (stays 257)).exact)
    (level_carries Here level_identifier))

level_parameter : IsLevel g.parameter
level_parameter = level_node make_parameter (level_bind level_identifier
    (λ name. level_then k.Becomes (λ _. level_bind level_expression (λ x. level_give (name, x)))))

exact_parameter_list : Exact Here (p.commas p.parameter) (g.commas g.parameter)
    (sees_any (k.Comma ∷ goes_on))
exact_parameter_list = exact_commas_of 257 goes_on form_parameter.exact refl level_parameter

form_parameters : Form Here p.parameters g.parameters (k.OpenParenthesis ∷ []) []
unfolding p.parameters
form_parameters = form_scoped {es = []} (form_take {W = Here} {es = []} k.OpenParenthesis 1 1
    (λ _. exact_last (k.Comma ∷ goes_on) k.CloseParenthesis
    (λ found. found) exact_parameter_list refl) (into Here))

level_parameters : IsLevel g.parameters
level_parameters = level_scoped _

form_task : Form Here p.task g.task (k.Task ∷ []) []
unfolding p.task
form_task = form_node make_task (form_take {W = Here} {es = []} k.Task 0 0
    (λ _. (form_then {W = Here} {es = []} form_identifier
    (λ name. exact_last [] k.Semicolon (λ found. (name, found)) form_parameters.exact refl)
    (level_carries Here level_identifier)).exact) (stays 257))

level_task : IsLevel g.task
level_task = level_node make_task (level_then k.Task
    (λ _. level_bind level_identifier (λ name. level_bind level_parameters
    (λ found. level_last k.Semicolon (name, found)))))

exact_task_list : Exact Here (p.each k.Task p.task) (g.each g.task) (sees_any (k.Task ∷ []))
exact_task_list = exact_list_of k.Task form_task refl level_task

-- ---- programs under tasks

form_with : Form Here p.with_task g.with_task (k.With ∷ []) []
unfolding p.with_task
form_with = form_take {W = Here} {es = []} k.With 0 0
    (λ _. (form_as (λ i. Some i) form_identifier).exact) (stays 257)

exact_optional_task : Exact Here p.optional_task g.optional_task (sees_any (k.With ∷ []))
unfolding p.optional_task
exact_optional_task = exact_optional k.With None form_with

level_optional_task : IsLevel g.optional_task
level_optional_task = level_or (level_then k.With
    (λ _. level_bind level_identifier (λ i. level_give (Some i)))) (level_give None)

form_line : Form Here p.program_line g.program_line (k.Program ∷ []) []
unfolding p.program_line
form_line = form_node make_line (form_take {W = Here} {es = []} k.Program 0 0
    (λ _. (form_then {W = Here} {es = []} form_identifier
    (λ name. bind_starts {W = Here} (k.With ∷ []) exact_optional_task
    (λ t. (form_take {W = Here} {es = []} k.Colon 0 0
    (λ _. (form_then {W = Anywhere} {es = []} form_identifier
    (λ program. (form_last k.Semicolon (name, t, program)).exact) (anywhere Here _)).exact)
    (stays 257)).exact)
    (level_carries Here level_optional_task) (λ t. starts_bind (starts_token k.Colon 0 0)) refl)
    (level_carries Here level_identifier)).exact) (stays 257))

level_line : IsLevel g.program_line
level_line = level_node make_line (level_then k.Program
    (λ _. level_bind level_identifier (λ name. level_bind level_optional_task
    (λ t. level_then k.Colon (λ _. level_bind level_identifier
    (λ program. level_last k.Semicolon (name, t, program)))))))

exact_line_list : Exact Here (p.each k.Program p.program_line) (g.each g.program_line)
    (sees_any (k.Program ∷ []))
exact_line_list = exact_list_of k.Program form_line refl level_line

abbrev task_kinds : List TokenKind
task_kinds = k.Task ∷ k.Program ∷ []

pub exact_tasks : Exact Here p.tasks g.tasks (sees_any task_kinds)
unfolding p.tasks
exact_tasks = bind_loose {W = Here} (k.Task ∷ []) (k.Program ∷ []) exact_task_list
    (λ found. bind_give (tasks_of found) exact_line_list)
    (level_carries Here (level_each level_task))
    (λ found. loose_bind (loose_each form_line.starts)
    (λ lines. loose_give (tasks_of found lines))) refl

pub level_tasks : IsLevel g.tasks
level_tasks = level_bind (level_each level_task)
    (λ found. level_bind (level_each level_line) (λ lines. level_give (tasks_of found lines)))

loose_tasks : Loose g.tasks task_kinds
loose_tasks = loose_bind (loose_each form_task.starts)
    (λ found. loose_bind (loose_each form_line.starts) (λ lines. loose_give (tasks_of found lines)))

-- ---- resources and configurations

-- tasks, and the word that ends them
exact_ended : {B : Type 0} (kind : TokenKind) (make : Tasks → B)
    → disjoint (kind ∷ []) task_kinds ≡ true → Exact Here
    (λ c. and_then (p.tasks c) (λ ts. λ c. and_then (take kind c) (λ _. pure (make ts))))
    (g.tasks >>= λ ts. token kind >>= λ _. give (make ts)) (sees_any [])
exact_ended kind make apart = exact_last task_kinds kind make exact_tasks apart

starts_ended : {B : Type 0} (kind : TokenKind) (make : Tasks → B)
    → Starts (g.tasks >>= λ ts. token kind >>= λ _. give (make ts)) (task_kinds ++ kind ∷ [])
starts_ended kind make = loose_then loose_tasks (λ ts. starts_last kind (make ts))

form_resource : Form Here p.resource g.resource (k.Resource ∷ []) []
unfolding p.resource
form_resource = form_node make_resource (form_take {W = Here} {es = []} k.Resource 0 0
    (λ _. (form_then {W = Here} {es = []} form_identifier
    (λ name. (form_take {W = Here} {es = []} k.On 0 0
    (λ _. (form_then {W = Here} {es = []} form_identifier
    (λ kind. bind_starts {W = Here} (k.VarGlobal ∷ []) exact_globals_list
    (λ gs. exact_ended k.EndResource (λ ts. (name, kind, gs, ts)) refl)
    (level_carries Here level_globals_list)
    (λ gs. starts_ended k.EndResource (λ ts. (name, kind, gs, ts))) refl)
    (level_carries Here level_identifier)).exact) (stays 257)).exact)
    (level_carries Here level_identifier)).exact) (stays 257))

level_resource : IsLevel g.resource
level_resource = level_node make_resource (level_then k.Resource
    (λ _. level_bind level_identifier (λ name. level_then k.On
    (λ _. level_bind level_identifier (λ kind. level_bind level_globals_list
    (λ gs. level_bind level_tasks (λ ts. level_last k.EndResource (name, kind, gs, ts))))))))

exact_resources : Exact Here (p.each k.Resource p.resource) (g.each g.resource)
    (sees_any (k.Resource ∷ []))
exact_resources = exact_list_of k.Resource form_resource refl level_resource

pub form_config : Form Here p.config g.config (k.Configuration ∷ []) []
unfolding p.config
form_config = form_node make_config (form_take {W = Here} {es = []} k.Configuration 0 0
    (λ _. (form_then {W = Here} {es = []} form_identifier
    (λ name. bind_starts {W = Here} (k.VarGlobal ∷ []) exact_globals_list
    (λ gs. bind_starts {W = Here} (k.Resource ∷ []) exact_resources
    (λ rs. exact_ended k.EndConfiguration (λ ts. (name, gs, rs, ts)) refl)
    (level_carries Here (level_each level_resource))
    (λ rs. starts_ended k.EndConfiguration (λ ts. (name, gs, rs, ts))) refl)
    (level_carries Here level_globals_list) (λ gs. loose_then (loose_each form_resource.starts)
    (λ rs. starts_ended k.EndConfiguration (λ ts. (name, gs, rs, ts)))) refl)
    (level_carries Here level_identifier)).exact) (stays 257))

pub level_config : IsLevel g.config
level_config = level_node make_config (level_then k.Configuration
    (λ _. level_bind level_identifier (λ name. level_bind level_globals_list
    (λ gs. level_bind (level_each level_resource)
    (λ rs. level_bind level_tasks (λ ts. level_last k.EndConfiguration (name, gs, rs, ts)))))))
