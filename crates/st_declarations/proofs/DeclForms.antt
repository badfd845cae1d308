-- The parsers of declarations, sections and types read their grammar.
use Rattle.std.proofs.Common.{◌≡◌, ℕ, List, [], ◌∷◌, Option, Some, None, refl}
use Rattle.token_grammar.specs.declared.token.TokenKind.{TokenKind}
use Rattle.token_grammar.specs.declared.token.TokenKind.TheVariants as k
use Rattle.token_grammar.specs.Texts.{Lexeme}
use Rattle.token_grammar.specs.steps.Parsers.{and_then, pure, take, sees_in}
use Rattle.token_grammar.specs.Grammar.{◌>>=◌, give, token}
use Rattle.token_grammar.proofs.Laws.{Exact}
use Rattle.token_grammar.proofs.Starts.{sees_any, Starts, IsLevel, bind_starts, starts_bind, starts_token}
use Rattle.token_grammar.proofs.Forms.{Form, level_carries, form_token, form_take, form_then, form_next, form_as, form_or, form_node, exact_optional, exact_or_else, avoids_starts, avoids_or, avoids_give, level_bind, level_give, level_or, level_node, level_then}
use Rattle.token_grammar.proofs.Loose.{loose_optional, loose_then}
use Rattle.st_tree.specs.declared.declaration.Init.{Init}
use Rattle.st_tree.specs.declared.declaration.Keep.{Keep}
use Rattle.st_tree.specs.declared.declaration.Keep.TheVariants as keep_kind
use Rattle.st_tree.specs.declared.declaration.SectionKind.{SectionKind}
use Rattle.st_tree.specs.declared.declaration.SectionKind.TheVariants as section_kind
use Rattle.st_tree.specs.declared.declaration.Decl.{Decl}
use Rattle.st_tree.specs.declared.file.Shape.TheVariants as shape_kind
use Rattle.st_declarations.specs.Trees.{make_decl, make_section, make_globals, make_fields, make_struct, make_type_decl, make_types}
use Rattle.st_declarations.specs.Grammar as g
use Rattle.st_declarations.specs.steps.Parse as p
use Rattle.st_expr.proofs.Leaves.{form_identifier, level_identifier, form_address, level_address}
use Rattle.st_expr.proofs.Exactness.{goes_on}
use Rattle.st_expr.proofs.NameLists.{form_names, level_names}
use Rattle.st_expr.proofs.Operators.{or_is, last_is}
use Rattle.st_expr.proofs.Lists.{Here, stays, exact_each, level_each, loose_each, exact_last, starts_last, level_last}
use Rattle.st_declarations.proofs.ListForms.{exact_list_of}
use Rattle.st_declarations.proofs.SpecForms.{form_spec, level_spec, spec_kinds, spec_ends}
use Rattle.st_declarations.proofs.InitForms.{exact_optional_init, level_optional_init, loose_optional_init}

-- ---- declarations

form_located : Form Here p.located g.located (k.At ∷ []) []
unfolding p.located
form_located = form_take {W = Here} k.At 0 0 (λ _. (form_as (λ a. Some a) form_address).exact)
    (stays 257)

exact_address : Exact Here p.optional_address g.optional_address (sees_any (k.At ∷ []))
unfolding p.optional_address
exact_address = exact_optional k.At None form_located

level_located : IsLevel g.optional_address
level_located =
    level_or (level_then k.At (λ _. level_bind level_address (λ a. level_give (Some a))))
    (level_give None)

-- what stands behind a spec
exact_ending : {B : Type 0} (make : Option Init → B)
    → Exact Here (λ c. and_then (p.optional_init c)
    (λ i. λ c. and_then (take k.Semicolon c) (λ _. pure (make i))))
    (g.optional_init >>= λ i. token k.Semicolon >>= λ _. give (make i)) (sees_any [])
exact_ending make = exact_last (k.Becomes ∷ goes_on) k.Semicolon make exact_optional_init refl

starts_ending : {B : Type 0} (make : Option Init → B)
    → Starts (g.optional_init >>= λ i. token k.Semicolon >>= λ _. give (make i))
    (k.Becomes ∷ k.Semicolon ∷ [])
starts_ending make = loose_then loose_optional_init (λ i. starts_last k.Semicolon (make i))

level_ending : {B : Type 0} (make : Option Init → B)
    → IsLevel (g.optional_init >>= λ i. token k.Semicolon >>= λ _. give (make i))
level_ending make = level_bind level_optional_init (λ i. level_last k.Semicolon (make i))

pub form_decl : Form Here p.decl g.decl (k.Name ∷ []) []
unfolding p.decl
form_decl = form_node make_decl (form_next {W = Here} {es = []} form_names
    (λ ns. bind_starts {W = Here} (k.At ∷ []) exact_address
    (λ a. (form_take {W = Here} {es = []} k.Colon 0 0
    (λ _. (form_next {W = Here} {es = []} form_spec (λ s. exact_ending (λ i. (ns, a, s, i)))
    (λ s. starts_ending (λ i. (ns, a, s, i))) refl (level_carries Here level_spec)).exact)
    (stays 257)).exact)
    (level_carries Here level_located) (λ a. starts_bind (starts_token k.Colon 0 0)) refl)
    (λ ns. loose_then (loose_optional None form_located.starts)
    (λ a. starts_bind (starts_token k.Colon 0 0))) refl (level_carries Here level_names))

pub level_decl : IsLevel g.decl
level_decl = level_node make_decl (level_bind level_names
    (λ ns. level_bind level_located (λ a. level_then k.Colon
    (λ _. level_bind level_spec (λ s. level_ending (λ i. (ns, a, s, i)))))))

exact_decls : Exact Here (p.each k.Name p.decl) (g.each g.decl) (sees_any (k.Name ∷ []))
exact_decls = exact_list_of k.Name form_decl refl level_decl

-- ---- sections

form_keep_as : {V : ℕ → Type 0} (kind : TokenKind) (x : Keep)
    → Form V (p.keep_as kind x) (g.keep_as kind x) (kind ∷ []) []
unfolding p.keep_as
form_keep_as kind x = form_as (λ _. Some x) (form_token kind 0 0)

level_keep_as : (kind : TokenKind) (x : Keep) → IsLevel (g.keep_as kind x)
level_keep_as kind x = level_last kind (Some x)

abbrev keep_kinds : List TokenKind
keep_kinds = k.Constant ∷ k.Retain ∷ k.NonRetain ∷ []

exact_keep : Exact Here p.keep g.keep (sees_any keep_kinds)
unfolding p.keep
exact_keep =
    exact_or_else (k.Retain ∷ k.NonRetain ∷ []) k.Constant
    (form_keep_as k.Constant keep_kind.Constant)
    (exact_or_else (k.NonRetain ∷ []) k.Retain
    (form_keep_as k.Retain keep_kind.Retain)
    (exact_optional k.NonRetain None (form_keep_as k.NonRetain keep_kind.NonRetain))
    (avoids_or k.Retain (avoids_starts k.Retain (starts_last k.NonRetain _) refl)
    (avoids_give k.Retain None)))
    (avoids_or k.Constant (avoids_starts k.Constant (starts_last k.Retain _) refl)
    (avoids_or k.Constant (avoids_starts k.Constant (starts_last k.NonRetain _) refl)
    (avoids_give k.Constant None)))

level_keep : IsLevel g.keep
level_keep = level_or (level_keep_as k.Constant keep_kind.Constant)
    (level_or (level_keep_as k.Retain keep_kind.Retain)
    (level_or (level_keep_as k.NonRetain keep_kind.NonRetain) (level_give None)))

-- { decl } END_VAR, behind [ keep ]
exact_kept : {B : Type 0} (make : Option Keep → List Decl → B)
    → Exact Here (λ c. and_then (p.keep c) (λ kp. λ c. and_then (p.each k.Name p.decl c)
    (λ ds. λ c. and_then (take k.EndVar c) (λ _. pure (make kp ds)))))
    (g.keep >>= λ kp. g.each g.decl >>= λ ds. token k.EndVar >>= λ _. give (make kp ds))
    (sees_any [])
exact_kept make = bind_starts {W = Here} keep_kinds exact_keep
    (λ kp. exact_last (k.Name ∷ []) k.EndVar (make kp) exact_decls refl)
    (level_carries Here level_keep)
    (λ kp. loose_then (loose_each form_decl.starts) (λ ds. starts_last k.EndVar (make kp ds))) refl

level_kept : {B : Type 0} (make : Option Keep → List Decl → B)
    → IsLevel (g.keep >>= λ kp. g.each g.decl >>= λ ds. token k.EndVar >>= λ _. give (make kp ds))
level_kept make = level_bind level_keep (λ kp. level_bind (level_each level_decl)
    (λ ds. level_last k.EndVar (make kp ds)))

form_section_as : {V : ℕ → Type 0} (kind : TokenKind) (x : SectionKind)
    → Form V (p.section_as kind x) (g.section_as kind x) (kind ∷ []) []
unfolding p.section_as
form_section_as kind x = form_as (λ _. x) (form_token kind 0 0)

abbrev pub section_kinds : List TokenKind
section_kinds = k.Var ∷ k.VarInput ∷ k.VarOutput ∷ k.VarInOut ∷ k.VarExternal ∷ k.VarTemp ∷ []

form_section_word : {V : ℕ → Type 0} → Form V p.section_word g.section_word section_kinds []
unfolding p.section_word
form_section_word = form_or k.Var (form_section_as k.Var section_kind.Var)
    (form_or k.VarInput (form_section_as k.VarInput section_kind.Input)
    (form_or k.VarOutput (form_section_as k.VarOutput section_kind.Output)
    (form_or k.VarInOut (form_section_as k.VarInOut section_kind.InOut)
    (form_or k.VarExternal (form_section_as k.VarExternal section_kind.External)
    (form_section_as k.VarTemp section_kind.Temp) refl) refl) refl) refl) refl

level_section_word : IsLevel g.section_word
level_section_word = level_or (level_last k.Var section_kind.Var)
    (level_or (level_last k.VarInput section_kind.Input)
    (level_or (level_last k.VarOutput section_kind.Output)
    (level_or (level_last k.VarInOut section_kind.InOut)
    (level_or (level_last k.VarExternal section_kind.External)
    (level_last k.VarTemp section_kind.Temp)))))

pub form_section : Form Here p.section g.section section_kinds []
unfolding p.section
form_section = form_node make_section (form_then {W = Here} {es = []} form_section_word
    (λ kind. exact_kept (λ kp ds. (kind, kp, ds))) (level_carries Here level_section_word))

pub level_section : IsLevel g.section
level_section = level_node make_section (level_bind level_section_word
    (λ kind. level_kept (λ kp ds. (kind, kp, ds))))

sees_sections : (ts : List Lexeme) → p.sees_section ts ≡ sees_any section_kinds ts
unfolding p.sees_section
sees_sections ts = or_is (sees_in k.Var ts) _ _
    (or_is (sees_in k.VarInput ts) _ _ (or_is (sees_in k.VarOutput ts) _ _
    (or_is (sees_in k.VarInOut ts) _ _ (or_is (sees_in k.VarExternal ts) _ _
    (last_is (sees_in k.VarTemp ts))))))

pub exact_sections : Exact Here p.sections g.sections (sees_any section_kinds)
unfolding p.sections p.more
exact_sections = exact_each sees_sections form_section refl level_section

pub level_sections : IsLevel g.sections
level_sections = level_each level_section

pub form_globals : Form Here p.globals g.globals (k.VarGlobal ∷ []) []
unfolding p.globals
form_globals = form_node make_globals (form_take {W = Here} {es = []} k.VarGlobal 0 0
    (λ _. exact_kept (λ kp ds. (kp, ds))) (stays 257))

pub level_globals : IsLevel g.globals
level_globals = level_node make_globals (level_then k.VarGlobal
    (λ _. level_kept (λ kp ds. (kp, ds))))

pub exact_globals_list : Exact Here (p.each k.VarGlobal p.globals) (g.each g.globals)
    (sees_any (k.VarGlobal ∷ []))
exact_globals_list = exact_list_of k.VarGlobal form_globals refl level_globals

pub level_globals_list : IsLevel (g.each g.globals)
level_globals_list = level_each level_globals

-- ---- types

form_fields : Form Here p.fields g.fields (k.Name ∷ []) []
unfolding p.fields
form_fields = form_node make_fields (form_next {W = Here} {es = []} form_names
    (λ ns. (form_take {W = Here} {es = []} k.Colon 0 0
    (λ _. (form_next {W = Here} {es = []} form_spec (λ s. exact_ending (λ i. (ns, s, i)))
    (λ s. starts_ending (λ i. (ns, s, i))) refl (level_carries Here level_spec)).exact)
    (stays 257)).exact)
    (λ ns. starts_bind (starts_token k.Colon 0 0)) refl (level_carries Here level_names))

level_fields : IsLevel g.fields
level_fields = level_node make_fields (level_bind level_names
    (λ ns. level_then k.Colon (λ _. level_bind level_spec (λ s. level_ending (λ i. (ns, s, i))))))

exact_fields_list : Exact Here (p.each k.Name p.fields) (g.each g.fields) (sees_any (k.Name ∷ []))
exact_fields_list = exact_list_of k.Name form_fields refl level_fields

form_struct : Form Here p.struct_shape g.struct_shape (k.Struct ∷ []) []
unfolding p.struct_shape
form_struct = form_node make_struct (form_take {W = Here} {es = []} k.Struct 0 0
    (λ _. exact_last (k.Name ∷ []) k.EndStruct (λ found. found) exact_fields_list refl) (stays 257))

form_shape : Form Here p.shape g.shape (k.Struct ∷ spec_kinds) spec_ends
unfolding p.shape
form_shape = form_or k.Struct form_struct (form_as shape_kind.Spec form_spec) refl

level_shape : IsLevel g.shape
level_shape = level_or (level_node make_struct
    (level_then k.Struct (λ _. level_bind (level_each level_fields)
    (λ found. level_last k.EndStruct found))))
    (level_bind level_spec (λ s. level_give (shape_kind.Spec s)))

form_type_decl : Form Here p.type_decl g.type_decl (k.Name ∷ []) []
unfolding p.type_decl
form_type_decl = form_node make_type_decl (form_then {W = Here} {es = []} form_identifier
    (λ name. (form_take {W = Here} {es = []} k.Colon 0 0
    (λ _. (form_next {W = Here} {es = []} form_shape (λ s. exact_ending (λ i. (name, s, i)))
    (λ s. starts_ending (λ i. (name, s, i))) refl (level_carries Here level_shape)).exact)
    (stays 257)).exact)
    (level_carries Here level_identifier))

level_type_decl : IsLevel g.type_decl
level_type_decl = level_node make_type_decl (level_bind level_identifier
    (λ name. level_then k.Colon (λ _. level_bind level_shape
    (λ s. level_ending (λ i. (name, s, i))))))

exact_type_decls : Exact Here (p.each k.Name p.type_decl) (g.each g.type_decl)
    (sees_any (k.Name ∷ []))
exact_type_decls = exact_list_of k.Name form_type_decl refl level_type_decl

pub form_types : Form Here p.types g.types (k.Type ∷ []) []
unfolding p.types
form_types = form_node make_types (form_take {W = Here} {es = []} k.Type 0 0
    (λ _. exact_last (k.Name ∷ []) k.EndType (λ found. found) exact_type_decls refl) (stays 257))

pub level_types : IsLevel g.types
level_types = level_node make_types (level_then k.Type
    (λ _. level_bind (level_each level_type_decl) (λ found. level_last k.EndType found)))
