-- What numbering does to declarations.
use Rattle.std.proofs.Common.{refl, subst}
use denote.Hole.Carrier
use Rattle.st_tree.specs.declared.declaration.TypeName.{TypeName}
use Rattle.st_tree.specs.declared.declaration.TypeName.TheVariants as type_name
use Rattle.st_tree.specs.declared.declaration.Range.{Range}
use Rattle.st_tree.specs.declared.declaration.Spec.{Spec, roll-Spec, map-Spec, ind-Spec}
use Rattle.st_tree.specs.declared.declaration.Spec.TheVariants as spec
use Rattle.st_tree.specs.declared.declaration.Spec.TheOpen.{Spec-F}
use Rattle.st_tree.specs.declared.declaration.Init.{Init, roll-Init, map-Init, ind-Init}
use Rattle.st_tree.specs.declared.declaration.Init.TheVariants as init
use Rattle.st_tree.specs.declared.declaration.Init.TheOpen.{Init-F, Item-F, FieldInit-F}
use Rattle.st_tree.specs.declared.declaration.Item.{Item, roll-Item, map-Item}
use Rattle.st_tree.specs.declared.declaration.Item.TheVariants as item
use Rattle.st_tree.specs.declared.declaration.FieldInit.{FieldInit, roll-FieldInit, rolls-FieldInit', map-FieldInit}
use Rattle.st_tree.specs.declared.declaration.Decl.{Decl}
use Rattle.st_tree.specs.declared.declaration.Section.{Section}
use Rattle.tree_numbers.specs.NodeLists.{nodes_of_type_name, nodes_of_range, nodes_of_spec, nodes_of_init, nodes_of_item, nodes_of_field, nodes_of_decl, nodes_of_section}
use Rattle.tree_numbers.specs.Bare.{bare_type_name, bare_range, bare_spec, bare_init, bare_item, bare_field, bare_decl, bare_section}
use Rattle.tree_numbers.specs.steps.Counted.{counted_type_name, counted_range, counted_spec, counted_init, counted_item, counted_field, counted_decl, counted_section}
use Rattle.tree_numbers.proofs.NodeEquations.{of_array, of_elements, of_enumeration, of_field, of_one, of_plain_value, of_repeated, of_structure, of_type}
use Rattle.tree_numbers.proofs.CountedEquations.{rolled_spec, rolled_init, rolled_item, rolled_field}
use Rattle.tree_numbers.proofs.BareEquations.{rolled_bare_spec, rolled_bare_init, rolled_bare_item, rolled_bare_field}
use Rattle.tree_numbers.proofs.Numbering.{Way, IsCounted, Held, node_is, at1, at2, at3, at5, each_is, option_is, each_held}
use Rattle.tree_numbers.proofs.ExpressionLaws.{identifier_way, identifier_is, address_way, address_is, expr_is}

abbrev pub type_name_way : Way TypeName
type_name_way =
    record { counts = counted_type_name; nodes = nodes_of_type_name; bare = bare_type_name }

pub type_name_is : (x : TypeName) → IsCounted type_name_way x
type_name_is (TypeName.Elementary node elem) =
    at1 type_name_way (λ node. type_name.Elementary node elem)
    (λ node c. refl) (λ node. refl) (λ node. refl)
    (node_is node)
type_name_is (TypeName.Named name) =
    at1 type_name_way type_name.Named
    (λ name c. refl) (λ name. refl) (λ name. refl)
    (identifier_is name)

abbrev pub range_way : Way Range
range_way = record { counts = counted_range; nodes = nodes_of_range; bare = bare_range }

pub range_is : (x : Range) → IsCounted range_way x
range_is x =
    at3 range_way (λ node lower upper. record { node = node; lower = lower; upper = upper })
    (λ node lower upper c. refl) (λ node lower upper. refl) (λ node lower upper. refl)
    (node_is x.node) (expr_is x.lower) (expr_is x.upper)

abbrev pub spec_way : Way Spec
spec_way = record { counts = counted_spec; nodes = nodes_of_spec; bare = bare_spec }

-- layers of trees with what numbering does to them, and the same layers without it
abbrev HeldSpec : Type 0
HeldSpec = Spec-F (Held spec_way)

abbrev plain_spec : HeldSpec → Spec-F Spec
plain_spec y = map-Spec (Held spec_way) Spec (λ e. e.0) y

spec_layer_is : (y : HeldSpec) → IsCounted spec_way (roll-Spec (plain_spec y))
unfolding roll-Spec Carrier.roll
spec_layer_is (Spec-F.«Type» node name limits) =
    at3 spec_way spec.«Type»
    (λ node name limits c. rolled_spec (Spec-F.«Type» node name limits) c)
    (λ node name limits. of_type node name limits)
    (λ node name limits. rolled_bare_spec (Spec-F.«Type» node name limits))
    (node_is node) (type_name_is name) (option_is range_way range_is limits)
spec_layer_is (Spec-F.Enumeration node values) =
    at2 spec_way spec.Enumeration
    (λ node values c. rolled_spec (Spec-F.Enumeration node values) c)
    (λ node values. of_enumeration node values)
    (λ node values. rolled_bare_spec (Spec-F.Enumeration node values))
    (node_is node) (each_is identifier_way identifier_is values)
spec_layer_is (Spec-F.Array node ranges element) =
    at3 spec_way spec.Array
    (λ node ranges element c. rolled_spec (Spec-F.Array node ranges element) c)
    (λ node ranges element. of_array node ranges element)
    (λ node ranges element. rolled_bare_spec (Spec-F.Array node ranges element))
    (node_is node) (each_is range_way range_is ranges) element.1

pub spec_is : (x : Spec) → IsCounted spec_way x
spec_is = ind-Spec (IsCounted spec_way)
    (λ x y is. subst (λ z. IsCounted spec_way (roll-Spec z)) is (spec_layer_is y))

abbrev pub init_way : Way Init
init_way = record { counts = counted_init; nodes = nodes_of_init; bare = bare_init }

abbrev pub item_way : Way Item
item_way = record { counts = counted_item; nodes = nodes_of_item; bare = bare_item }

abbrev pub field_way : Way FieldInit
field_way = record { counts = counted_field; nodes = nodes_of_field; bare = bare_field }

-- layers of trees with what numbering does to them, and the same layers without it
abbrev HeldInit : Type 0
HeldInit = Init-F (Held init_way) (Held item_way) (Held field_way)

abbrev plain_init : HeldInit → Init-F Init Item FieldInit
plain_init y =
    map-Init (Held init_way) (Held item_way) (Held field_way) Init Item FieldInit (λ e. e.0)
    (λ e. e.0) (λ e. e.0) y

abbrev HeldItem : Type 0
HeldItem = Item-F (Held init_way) (Held item_way) (Held field_way)

abbrev plain_item : HeldItem → Item-F Init Item FieldInit
plain_item y =
    map-Item (Held init_way) (Held item_way) (Held field_way) Init Item FieldInit (λ e. e.0)
    (λ e. e.0) (λ e. e.0) y

abbrev HeldFieldInit : Type 0
HeldFieldInit = FieldInit-F (Held init_way) (Held item_way) (Held field_way)

abbrev plain_field : HeldFieldInit → FieldInit-F Init Item FieldInit
plain_field y =
    map-FieldInit (Held init_way) (Held item_way) (Held field_way) Init Item FieldInit (λ e. e.0)
    (λ e. e.0) (λ e. e.0) y

init_layer_is : (y : HeldInit) → IsCounted init_way (roll-Init (plain_init y))
unfolding roll-Init Carrier.roll
init_layer_is (Init-F.Value value) =
    at1 init_way init.Value
    (λ value c. rolled_init (Init-F.Value value) c) (λ value. of_plain_value value)
    (λ value. rolled_bare_init (Init-F.Value value))
    (expr_is value)
init_layer_is (Init-F.Array node elements) =
    at2 init_way init.Array
    (λ node elements c. rolled_init (Init-F.Array node elements) c)
    (λ node elements. of_elements node elements)
    (λ node elements. rolled_bare_init (Init-F.Array node elements))
    (node_is node) (each_held item_way elements)
init_layer_is (Init-F.Structure node fields) =
    at2 init_way init.Structure
    (λ node fields c. rolled_init (Init-F.Structure node fields) c)
    (λ node fields. of_structure node fields)
    (λ node fields. rolled_bare_init (Init-F.Structure node fields))
    (node_is node) (each_held field_way fields)

item_layer_is : (y : HeldItem) → IsCounted item_way (roll-Item (plain_item y))
unfolding roll-Item Carrier.roll
item_layer_is (Item-F.One value) =
    at1 item_way item.One
    (λ value c. rolled_item (Item-F.One value) c) (λ value. of_one value)
    (λ value. rolled_bare_item (Item-F.One value))
    value.1
item_layer_is (Item-F.Repeated node count value) =
    at2 item_way (λ node value. item.Repeated node count value)
    (λ node value c. rolled_item (Item-F.Repeated node count value) c)
    (λ node value. of_repeated node count value)
    (λ node value. rolled_bare_item (Item-F.Repeated node count value))
    (node_is node) value.1

field_layer_is : (y : HeldFieldInit) → IsCounted field_way (roll-FieldInit (plain_field y))
field_layer_is y = rw (rolls-FieldInit' (plain_field y))
    (at3 field_way (λ node name value. record { node = node; name = name; value = value })
    (λ node name value c. rolled_field (record { node = node; name = name; value = value }) c)
    (λ node name value. of_field node name value)
    (λ node name value. rolled_bare_field (record { node = node; name = name; value = value }))
    (node_is y.node) (identifier_is y.name) y.value.1)

pub init_is : (x : Init) → IsCounted init_way x
init_is = ind-Init (IsCounted init_way) (IsCounted item_way) (IsCounted field_way)
    (λ x y is. subst (λ z. IsCounted init_way (roll-Init z)) is (init_layer_is y))
    (λ x y is. subst (λ z. IsCounted item_way (roll-Item z)) is (item_layer_is y))
    (λ x y is. subst (λ z. IsCounted field_way (roll-FieldInit z)) is (field_layer_is y))

abbrev pub decl_way : Way Decl
decl_way = record { counts = counted_decl; nodes = nodes_of_decl; bare = bare_decl }

pub decl_is : (x : Decl) → IsCounted decl_way x
decl_is x =
    at5 decl_way
    (λ node names address spec init. record
    { node = node; names = names; address = address; spec = spec; init = init })
    (λ node names address spec init c. refl) (λ node names address spec init. refl)
    (λ node names address spec init. refl)
    (node_is x.node) (each_is identifier_way identifier_is x.names)
    (option_is address_way address_is x.address) (spec_is x.spec)
    (option_is init_way init_is x.init)

abbrev pub section_way : Way Section
section_way = record { counts = counted_section; nodes = nodes_of_section; bare = bare_section }

pub section_is : (x : Section) → IsCounted section_way x
section_is x =
    at2 section_way
    (λ node decls. record { node = node; kind = x.kind; keep = x.keep; decls = decls })
    (λ node decls c. refl) (λ node decls. refl) (λ node decls. refl)
    (node_is x.node) (each_is decl_way decl_is x.decls)
