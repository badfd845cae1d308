-- What names and literals mean where a declaration stands, and which of its expressions lead back to it.
-- Source: this profile: the bound or the initial value of a declaration leads back where it names a
-- variable from which the declaration is reached.
use Rattle.std.specs.Prelude.{ℕ, Bool, true, false, ◌||◌, List, [], Option, Some, None}
use Rattle.std.specs.List.{list_any}
use Rattle.st_tree.specs.declared.expression.Root.{Root}
use Rattle.st_tree.specs.declared.expression.Expr.{Expr, fold-Expr}
use Rattle.st_tree.specs.declared.expression.Expr.TheOpen.{Expr-F, Part-F, Argument-F, Path-F}
use Rattle.st_tree.specs.declared.expression.Part.{Part, fold-Part}
use Rattle.st_tree.specs.declared.expression.Argument.{Argument, fold-Argument}
use Rattle.st_tree.specs.declared.expression.Path.{Path, fold-Path}
use Rattle.st_tree.specs.declared.declaration.Init.{Init, fold-Init}
use Rattle.st_tree.specs.declared.declaration.Init.TheOpen.{Init-F, Item-F, FieldInit-F}
use Rattle.st_tree.specs.declared.declaration.Item.{Item, fold-Item}
use Rattle.st_tree.specs.declared.declaration.FieldInit.{FieldInit, fold-FieldInit}
use Rattle.declaration_order.specs.LeadBack.{lead_together}
use Rattle.expression_types.specs.Meanings.{Names}
use Rattle.declared_names.specs.Project.{Project, Known, Here, variable_number}
use Rattle.declared_names.specs.Shapes.{is_same}
use Rattle.declared_names.specs.Seen.{seen_here}
use Rattle.declared_names.specs.TypeValues.{type_value_here}
use Rattle.declared_names.specs.Literals.{literal, typed_literal, milliseconds}

abbrev pub names_here : Known → Here → Names
names_here k h =
    record {
      literal = literal;
      typed_literal = typed_literal;
      time = milliseconds;
      seen = seen_here k h;
      type_value = type_value_here k h;
      is_same = is_same k.project;
    }

-- ---- leading back

abbrev pub leads_to : Project → Here → Option ℕ → Bool
leads_to p h None = false
leads_to p h (Some m) = lead_together p.components h.number m

abbrev pub name_leads : Project → Here → List ℕ → Bool
name_leads p h name = leads_to p h (variable_number p h.owner name)

abbrev pub root_leads : Project → Here → Root → Bool
root_leads p h (Root.Name x) = name_leads p h x.name
root_leads p h (Root.Address x) = false

abbrev pub some_lead : List Bool → Bool
some_lead = list_any (λ leads. leads)

abbrev pub expr_leads : Expr-F Bool Bool Bool Bool → Bool
expr_leads (Expr-F.Path path) = path
expr_leads (Expr-F.Parenthesized node inner) = inner
expr_leads (Expr-F.Unary node op operand) = operand
expr_leads (Expr-F.Binary node op left right) = left || right
expr_leads (Expr-F.Call node name arguments) = some_lead arguments
expr_leads (Expr-F.Number node negative text) = false
expr_leads (Expr-F.Typed node text) = false
expr_leads (Expr-F.Time node text) = false
expr_leads (Expr-F.Truth node truth) = false
expr_leads (Expr-F.Value node name value_name) = false

abbrev pub part_leads : Part-F Bool Bool Bool Bool → Bool
part_leads (Part-F.Field name) = false
part_leads (Part-F.Index node indices) = some_lead indices

abbrev pub argument_leads : Argument-F Bool Bool Bool Bool → Bool
argument_leads x = x.value

abbrev pub path_leads : Project → Here → Path-F Bool Bool Bool Bool → Bool
path_leads p h x = root_leads p h x.root || some_lead x.parts

unfoldable pub expr_leads_back : Project → Here → Expr → Bool
expr_leads_back p h =
    fold-Expr Bool Bool Bool Bool expr_leads part_leads argument_leads (path_leads p h)

unfoldable pub part_leads_back : Project → Here → Part → Bool
part_leads_back p h =
    fold-Part Bool Bool Bool Bool expr_leads part_leads argument_leads (path_leads p h)

unfoldable pub argument_leads_back : Project → Here → Argument → Bool
argument_leads_back p h =
    fold-Argument Bool Bool Bool Bool expr_leads part_leads argument_leads (path_leads p h)

unfoldable pub path_leads_back : Project → Here → Path → Bool
path_leads_back p h =
    fold-Path Bool Bool Bool Bool expr_leads part_leads argument_leads (path_leads p h)

-- ---- initial values

abbrev pub init_leads : Project → Here → Init-F Bool Bool Bool → Bool
init_leads p h (Init-F.Value value) = expr_leads_back p h value
init_leads p h (Init-F.Array node items) = some_lead items
init_leads p h (Init-F.Structure node fields) = some_lead fields

abbrev pub item_leads : Item-F Bool Bool Bool → Bool
item_leads (Item-F.One init) = init
item_leads (Item-F.Repeated node count init) = init

abbrev pub field_leads : FieldInit-F Bool Bool Bool → Bool
field_leads x = x.value

unfoldable pub init_leads_back : Project → Here → Init → Bool
init_leads_back p h = fold-Init Bool Bool Bool (init_leads p h) item_leads field_leads

unfoldable pub item_leads_back : Project → Here → Item → Bool
item_leads_back p h = fold-Item Bool Bool Bool (init_leads p h) item_leads field_leads

unfoldable pub field_leads_back : Project → Here → FieldInit → Bool
field_leads_back p h = fold-FieldInit Bool Bool Bool (init_leads p h) item_leads field_leads
