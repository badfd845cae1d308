-- What stands around a declaration of a project: what constants are where names have these meanings,
-- what the names of types stand for, and what leads back to the declaration.
use Rattle.std.specs.Prelude.{ℕ, nat_le, false, if◌then◌else◌, List, [], Option, Some, None}
use Rattle.st_tree.specs.declared.node.Node.{Node}
use Rattle.st_tree.specs.declared.node.Site.{Site}
use Rattle.st_tree.specs.declared.code.Number.{Number}
use Rattle.st_tree.specs.declared.expression.Expr.{Expr}
use Rattle.st_lexer.specs.steps.Readings.{read_number}
use Rattle.link_faults.specs.declared.code.LinkCode.TheVariants as code
use Rattle.link_faults.specs.Checked.{Checked, wrong}
use Rattle.expression_types.specs.Meanings.{Meanings, Parts, Function, meant}
use Rattle.expression_types.specs.Judge.{constant_number}
use Rattle.expression_types.specs.declared.judged.Place.{Place}
use Rattle.expression_types.specs.declared.judged.Place.TheVariants as place
use Rattle.expression_types.specs.declared.meaning.Seen.TheVariants as seen
use Rattle.expression_types.specs.declared.meaning.Field.TheVariants as field
use Rattle.expression_types.specs.declared.meaning.Callee.TheVariants as callee
use Rattle.declared_types.specs.Around.{Around}
use Rattle.declared_types.specs.declared.outside.ConstantPlace.{ConstantPlace}
use Rattle.declared_types.specs.declared.outside.ConstantPlace.TheVariants as constant
use Rattle.initial_values.specs.Nodes.{expr_node}
use Rattle.declaration_rules.specs.Declarations.{Surroundings}
use Rattle.declared_names.specs.Project.{Known, Here}
use Rattle.declared_names.specs.Meaning.{names_here, expr_leads_back, init_leads_back}
use Rattle.declared_names.specs.NamedTypes.{named_here}
use Rattle.declared_names.specs.Twice.{enumeration_here, has_field_twice}
use Rattle.declared_project.specs.Addresses.{address_holds}

-- ---- repeat counts

abbrev pub capped : ℕ → ℕ
capped n = if nat_le n 4294967295 then n else 4294967295

abbrev pub count_of : Option ℕ → ℕ
count_of None = 0
count_of (Some n) = capped n

-- the number of a repeat count, or 2^32 - 1 where it is above
abbrev pub repeat_count : List ℕ → ℕ
repeat_count text = count_of (read_number text)

-- ---- constants

-- what the place of a constant asks of an expression; the first shape is a block's, which no value has
abbrev pub asked : ConstantPlace → Place
asked constant.Any = place.Any
asked constant.Integer = place.Integer
asked (constant.Elem t) = place.Elem t
asked (constant.Enumeration s) = place.Shape s
asked constant.Nothing = place.Shape (record { 0 = 0 })

abbrev pub site_at : Here → Node → Site
site_at h node = record { file = h.file; node = node.number }

-- An expression that leads back to the declaration isn't constant.
abbrev pub constant_here : Meanings → Known → Here → ConstantPlace → Expr → Checked Number
constant_here m k h p e =
    if expr_leads_back k.project h e then wrong (site_at h (expr_node e)) code.NotConstant
    else constant_number m h.file (asked p) e

abbrev pub around_here : Meanings → Known → Here → Around
around_here m k h =
    record {
      file = h.file;
      constant = constant_here m k h;
      named = named_here k h;
      enumeration = enumeration_here k.project h;
    }

-- where names have these meanings
abbrev pub surroundings : Meanings → Known → Here → Surroundings
surroundings m k h =
    record {
      around = around_here m k h;
      repeats = repeat_count;
      leads_back = init_leads_back k.project h;
      has_field_twice = λ node. has_field_twice k.project h;
      address_holds = address_holds;
    }

-- ---- while declarations are computed

abbrev pub no_function : Function
no_function = record { inputs = []; declared = []; result = None }

-- Neither a part nor the variable at an address nor a call is constant: none of them is known.
abbrev pub no_parts : Parts
no_parts =
    record {
      address = λ name. seen.Faulty;
      field = λ shape name. field.Faulty;
      element = λ shape indices. None;
      is_enumeration = λ shape. false;
      callee = λ name. callee.Unknown;
      function = λ number. no_function;
    }

-- what names and literals mean by what is known so far
abbrev pub early : Known → Here → Meanings
early k h = meant (names_here k h) no_parts
