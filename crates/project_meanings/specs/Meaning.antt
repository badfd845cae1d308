-- What names, addresses, parts, elements and calls in expressions mean once all declarations are known.
use Rattle.std.specs.Prelude.{Bool}
use Rattle.expression_types.specs.Meanings.{Names, Parts}
use Rattle.expression_types.specs.declared.meaning.ShapeNo.{ShapeNo}
use Rattle.declared_names.specs.Literals.{literal, typed_literal, milliseconds}
use Rattle.declared_names.specs.Shapes.{is_same, is_listed, shape_listed}
use Rattle.declared_names.specs.TypeValues.{type_value_here}
use Rattle.project_meanings.specs.Whole.{Whole}
use Rattle.project_meanings.specs.Names.{seen_there}
use Rattle.project_meanings.specs.Addresses.{address_there}
use Rattle.project_meanings.specs.Parts.{field_there, element_there}
use Rattle.project_meanings.specs.Callees.{callee_there}
use Rattle.project_meanings.specs.Functions.{function_there}

abbrev pub names_there : Whole → Names
names_there w =
    record {
      literal = literal;
      typed_literal = typed_literal;
      time = milliseconds;
      seen = seen_there w;
      type_value = type_value_here w.known w.here;
      is_same = is_same w.known.project;
    }

abbrev pub is_enumeration : Whole → ShapeNo → Bool
is_enumeration w s = is_listed (shape_listed w.known.project s)

abbrev pub parts_there : Whole → Parts
parts_there w =
    record {
      address = address_there w;
      field = field_there w;
      element = element_there w;
      is_enumeration = is_enumeration w;
      callee = callee_there w;
      function = function_there w.known;
    }
