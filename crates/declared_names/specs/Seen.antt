-- What a name alone stands for in an expression of a declaration. Source: IEC 61131-3, scopes of
-- identifiers, as this profile narrows them: a variable of the unit's own, else a global, else the value of
-- an enumeration; a function sees no global that isn't constant, and the value of two enumerations is none.
use Rattle.std.specs.Prelude.{ℕ, pos, nat_eq, Bool, true, false, ◌&&◌, not, if◌then◌else◌, List, [], ◌∷◌, length, get_or, Option, Some, None}
use Rattle.std.specs.List.{filter}
use Rattle.std.specs.Option.{option_map}
use Rattle.st_tree.specs.declared.node.Site.{Site}
use Rattle.st_tree.specs.declared.code.Number.{Number}
use Rattle.scope_names.specs.declared.names.NameRow.{NameRow}
use Rattle.scope_names.specs.Scopes.{declares}
use Rattle.type_parts.specs.Places.{number_of_site}
use Rattle.project_declarations.specs.declared.scopes.TheConstants as scope
use Rattle.project_declarations.specs.declared.rows.What.{What}
use Rattle.project_declarations.specs.declared.rows.What.TheVariants as what
use Rattle.expression_types.specs.declared.meaning.Seen.{Seen}
use Rattle.expression_types.specs.declared.meaning.Seen.TheVariants as seen
use Rattle.expression_types.specs.declared.meaning.Constant.{Constant}
use Rattle.expression_types.specs.declared.meaning.ShapeNo.{ShapeNo}
use Rattle.expression_types.specs.declared.meaning.ValueType.{ValueType}
use Rattle.expression_types.specs.declared.meaning.ValueType.TheVariants as value
use Rattle.declared_types.specs.declared.given.Given.{Given}
use Rattle.declared_types.specs.declared.given.Initial.{Initial}
use Rattle.declared_types.specs.declared.given.Initial.TheVariants as initial
use Rattle.declared_names.specs.Project.{Project, Known, Here, own_number, global_number, owner_at, given_at, is_constant, is_external, in_function}
use Rattle.declared_names.specs.Shapes.{enumerations, enumeration_shape, value_type}

-- ---- variables

abbrev pub given_there : Known → Option ℕ → Option Given
given_there k None = None
given_there k (Some n) = given_at k n

abbrev pub varying : Option Given → Seen
varying None = seen.Faulty
varying (Some g) = seen.Variable (value_type g.ty)

-- a constant has the number that it is declared with; a whole array or structure has none
abbrev pub with_initial : ValueType → Initial → Seen
with_initial t (initial.Number z) = seen.Constant (record { ty = t; number = z })
with_initial t initial.Own = seen.Variable t
with_initial t (initial.Written n) = seen.Variable t

abbrev pub with_value : Given → Option Given → Seen
with_value g None = seen.Faulty
with_value g (Some v) = with_initial (value_type g.ty) v.value

-- a constant of that type, which has its value there
abbrev pub constant : Option Given → Option Given → Seen
constant None v = seen.Faulty
constant (Some g) v = with_value g v

abbrev pub plain : Known → ℕ → Seen
plain k n =
    if is_constant (owner_at k.project n) then constant (given_at k n) (given_at k n)
    else varying (given_at k n)

-- a name of a VAR_EXTERNAL is constant where its global is
abbrev pub external : Known → Option Given → Option ℕ → Seen
external k g None = varying g
external k g (Some m) =
    if is_constant (owner_at k.project m) then constant g (given_at k m) else varying g

abbrev pub own_seen : Known → List ℕ → ℕ → Seen
own_seen k name n =
    if is_external (owner_at k.project n)
    then external k (given_at k n) (global_number k.project name) else plain k n

abbrev pub global_seen : Known → Here → ℕ → Seen
global_seen k h m =
    if in_function k.project h.owner && not (is_constant (owner_at k.project m)) then seen.Foreign
    else plain k m

-- ---- values of enumerations

abbrev pub is_one_site : Site → Site → Bool
is_one_site a b = nat_eq a.file b.file && nat_eq a.node.0 b.node.0

-- the shape of the enumeration that is listed at a site
abbrev pub shape_at : Project → Site → Option ShapeNo
shape_at p site = option_map (enumeration_shape p) (number_of_site (enumerations p) site)

abbrev pub of_enumeration : Bool → ℕ → Option ShapeNo → Seen
of_enumeration alone place None = seen.Faulty
of_enumeration true place (Some s) =
    seen.Constant (record { ty = value.Other s; number = record { value = pos place } })
of_enumeration false place (Some s) = seen.NoValue s

-- the first value of the name, beside the last one
abbrev pub value_beside : Project → Site → ℕ → What → Seen
value_beside p site place (what.Value other other_place) =
    of_enumeration (is_one_site site other) place (shape_at p site)
value_beside p site place other = seen.Faulty

abbrev pub value_by : Project → What → What → Seen
value_by p (what.Value site at) last = value_beside p site at last
value_by p other last = seen.Faulty

-- values stand in the order of the text, those of one enumeration together
abbrev pub value_among : Project → List (NameRow What) → Seen
value_among p [] = seen.Unknown
value_among p (x ∷ xs) = value_by p x.what (get_or (x ∷ xs) (length xs) x).what

abbrev pub value_seen : Project → List ℕ → Seen
value_seen p name = value_among p (filter (declares scope.VALUES name) p.names)

-- ---- names

abbrev pub global_or_value : Known → Here → List ℕ → Option ℕ → Seen
global_or_value k h name (Some m) = global_seen k h m
global_or_value k h name None = value_seen k.project name

abbrev pub own_or_outer : Known → Here → List ℕ → Option ℕ → Seen
own_or_outer k h name (Some n) = own_seen k name n
own_or_outer k h name None = global_or_value k h name (global_number k.project name)

abbrev pub seen_here : Known → Here → List ℕ → Seen
seen_here k h name = own_or_outer k h name (own_number k.project h.owner name)
