-- The lists of functions and blocks have all of them, and no others.
use Rattle.std.proofs.Common.{◌≡◌, ◌∙◌, ◌⊎◌, inl, inr, ℕ, Bool, true, false, cond, List, [], ◌∷◌}
use Rattle.std.proofs.Common.{◌++◌, Option, Some, IsTrue, true≢false, ap, sym, subst, refl}
use Rattle.std.specs.Prelude.{◌↔◌, flat_map}
use Rattle.std.specs.Str.{bytes_eq}
use Rattle.std.specs.Option.{is_some}
use Rattle.std.proofs.lemmas.List.Folds.{list_any-append}
use Rattle.std.proofs.lemmas.Slice.Eq.{bytes_eq-Decides}
use Rattle.iec_tables.specs.Conversions.{is_same}
use Rattle.iec_tables.specs.Types.{name_of}
use Rattle.iec_tables.specs.Words.{raised_all}
use Rattle.iec_tables.specs.declared.elem.Elem.{Elem}
use Rattle.iec_tables.specs.declared.elem.Elem.TheVariants as elem
use Rattle.standard_names.specs.Functions.{function_name, IsFunction, IsFunctionName}
use Rattle.standard_names.specs.Blocks.{block_name, IsBlockName}
use Rattle.standard_names.specs.declared.function.StandardFunction.{StandardFunction}
use Rattle.standard_names.specs.declared.function.StandardFunction.TheVariants as function
use Rattle.standard_names.specs.declared.block.StandardBlock.{StandardBlock}
use Rattle.standard_names.specs.declared.block.StandardBlock.TheVariants as block
use Rattle.standard_names.proofs.Names.{elems-alike}
use Rattle.standard_types.specs.Lists.{types, plain_functions, conversion, conversions_from}
use Rattle.standard_types.specs.Lists.{functions, blocks, function_names, block_names}
use Rattle.standard_types.specs.Names.{block_named, function_named, is_function_name}
use Rattle.standard_types.specs.Names.{is_standard_name}
use Rattle.standard_types.proofs.Searches.{Among, among_left, among_right, among_either, among_map}
use Rattle.standard_types.proofs.Searches.{map_part, among_flat, tested, is_some_find, picked}

-- ---- all of them

pub among_types : (t : Elem) → Among t types
among_types elem.Sint = inl refl
among_types elem.Usint = inr (inl refl)
among_types elem.Int = inr (inr (inl refl))
among_types elem.Uint = inr (inr (inr (inl refl)))
among_types elem.Dint = inr (inr (inr (inr (inl refl))))
among_types elem.Udint = inr (inr (inr (inr (inr (inl refl)))))
among_types elem.Lint = inr (inr (inr (inr (inr (inr (inl refl))))))
among_types elem.Ulint = inr (inr (inr (inr (inr (inr (inr (inl refl)))))))
among_types elem.Byte = inr (inr (inr (inr (inr (inr (inr (inr (inl refl))))))))
among_types elem.Word = inr (inr (inr (inr (inr (inr (inr (inr (inr (inl refl)))))))))
among_types elem.Dword = inr (inr (inr (inr (inr (inr (inr (inr (inr (inr (inl refl))))))))))
among_types elem.Lword = inr (inr (inr (inr (inr (inr (inr (inr (inr (inr (inr (inl refl)))))))))))
among_types elem.Bool = inr (inr (inr (inr (inr (inr (inr (inr (inr (inr (inr (inr (inl refl))))))))))))
among_types elem.Time =
    inr (inr (inr (inr (inr (inr (inr (inr (inr (inr (inr (inr (inr (inl refl)))))))))))))

same_elems : (a b : Elem) → is_same a b ≡ true → a ≡ b
same_elems a b h = elems-alike a b tt tt ((bytes_eq-Decides (name_of a) (name_of b)).0 h)

itself : (a : Elem) → is_same a a ≡ true
itself a = (bytes_eq-Decides (name_of a) (name_of a)).1 refl

among_conversion : (a b : Elem) (same : Bool) → is_same a b ≡ same → ¬ (a ≡ b)
    → Among (function.Convert a b) (cond same [] (function.Convert a b ∷ []))
among_conversion a b true h n = absurd (n (same_elems a b h))
among_conversion a b false h n = inl refl

among_conversions : (a b : Elem) → ¬ (a ≡ b) → Among (function.Convert a b) functions
among_conversions a b n =
    among_right (function.Convert a b) plain_functions (flat_map conversions_from types)
    (among_flat conversions_from a (function.Convert a b) types (among_types a)
    (among_flat (conversion a) b (function.Convert a b) types (among_types b)
    (among_conversion a b (is_same a b) refl n)))

among_functions : (f : StandardFunction) → IsFunction f → Among f functions
among_functions function.Abs h = inl refl
among_functions function.Min h = inr (inl refl)
among_functions function.Max h = inr (inr (inl refl))
among_functions function.Limit h = inr (inr (inr (inl refl)))
among_functions function.Sel h = inr (inr (inr (inr (inl refl))))
among_functions function.Shl h = inr (inr (inr (inr (inr (inl refl)))))
among_functions function.Shr h = inr (inr (inr (inr (inr (inr (inl refl))))))
among_functions function.Rol h = inr (inr (inr (inr (inr (inr (inr (inl refl)))))))
among_functions function.Ror h = inr (inr (inr (inr (inr (inr (inr (inr (inl refl))))))))
among_functions (function.Convert a b) h = among_conversions a b h

among_blocks : (b : StandardBlock) → Among b blocks
among_blocks block.Sr = inl refl
among_blocks block.Rs = inr (inl refl)
among_blocks block.RTrig = inr (inr (inl refl))
among_blocks block.FTrig = inr (inr (inr (inl refl)))
among_blocks block.Ctu = inr (inr (inr (inr (inl refl))))
among_blocks block.Ctd = inr (inr (inr (inr (inr (inl refl)))))
among_blocks block.Ton = inr (inr (inr (inr (inr (inr (inl refl))))))
among_blocks block.Tof = inr (inr (inr (inr (inr (inr (inr (inl refl)))))))
among_blocks block.Tp = inr (inr (inr (inr (inr (inr (inr (inr (inl refl))))))))

-- ---- no others

abbrev AllFunctions : List StandardFunction → Type 0
AllFunctions [] = Unit {0}
AllFunctions (f ∷ fs) = IsFunction f × AllFunctions fs

functions_both : (fs gs : List StandardFunction) → AllFunctions fs → AllFunctions gs
    → AllFunctions (fs ++ gs)
functions_both [] gs h k = k
functions_both (f ∷ fs) gs h k = (h.0, functions_both fs gs h.1 k)

functions_flat : (make : Elem → List StandardFunction) (ts : List Elem)
    → ((t : Elem) → AllFunctions (make t)) → AllFunctions (flat_map make ts)
functions_flat make [] h = tt
functions_flat make (t ∷ ts) h =
    functions_both (make t) (flat_map make ts) (h t) (functions_flat make ts h)

one_conversion : (a b : Elem) (same : Bool) → is_same a b ≡ same
    → AllFunctions (cond same [] (function.Convert a b ∷ []))
one_conversion a b true h = tt
one_conversion a b false h =
    ((λ e. true≢false (sym (itself a) ∙ ap (is_same a) e ∙ h)), tt)

all_functions : AllFunctions functions
all_functions =
    functions_both plain_functions (flat_map conversions_from types)
    (tt, (tt, (tt, (tt, (tt, (tt, (tt, (tt, (tt, tt)))))))))
    (functions_flat conversions_from types (λ a.
    functions_flat (conversion a) types (λ b. one_conversion a b (is_same a b) refl)))

function_among : (f : StandardFunction) (fs : List StandardFunction) → AllFunctions fs → Among f fs
    → IsFunction f
function_among f [] all h = elim h [ ]
function_among f (g ∷ gs) all h = elim h as (λ _. IsFunction f) [
  | inl e ↦ subst IsFunction e all.0
  | inr m ↦ function_among f gs all.1 m
]

-- ---- what the searches find

pub function_is : (name : List ℕ) (r : Option StandardFunction)
    → ((f : StandardFunction) → (r ≡ Some f) ↔ (IsFunction f × (function_name f ≡ raised_all name)))
    → r ≡ function_named name
unfolding function_named
function_is name r h =
    picked function_name (raised_all name) IsFunction functions r among_functions
    (λ f m. function_among f functions all_functions m) h

abbrev AnyBlock : StandardBlock → Type 0
AnyBlock b = Unit {0}

pub block_is : (name : List ℕ) (r : Option StandardBlock)
    → ((b : StandardBlock) → (r ≡ Some b) ↔ (block_name b ≡ raised_all name)) → r ≡ block_named name
unfolding block_named
block_is name r h =
    picked block_name (raised_all name) AnyBlock blocks r (λ b _. among_blocks b) (λ b _. tt)
    (λ b. (λ e. (tt, (h b).0 e), λ k. (h b).1 k.1))

pub function_name_is : (name : List ℕ) (f : Option StandardFunction) (r : Bool)
    → f ≡ function_named name → r ≡ is_some f → r ≡ is_function_name name
unfolding function_named is_function_name
function_name_is name f r h k =
    k ∙ ap is_some h ∙ is_some_find function_name (raised_all name) functions

among_names : (s : List ℕ) → IsFunctionName s ⊎ IsBlockName s
    → Among s (function_names ++ block_names)
among_names s h = elim h as (λ _. Among s (function_names ++ block_names)) [
  | inl f ↦ subst (λ t. Among t (function_names ++ block_names)) f.2
      (among_left (function_name f.0) function_names block_names
      (among_map function_name f.0 functions (among_functions f.0 f.1)))
  | inr b ↦ subst (λ t. Among t (function_names ++ block_names)) b.1
      (among_right (block_name b.0) function_names block_names
      (among_map block_name b.0 blocks (among_blocks b.0)))
]

named_among : (s : List ℕ) → Among s (function_names ++ block_names)
    → IsFunctionName s ⊎ IsBlockName s
named_among s h =
    elim (among_either s function_names block_names h) as (λ _. IsFunctionName s ⊎ IsBlockName s) [
      | inl m ↦ let f = map_part function_name s functions m in
          inl (f.0, function_among f.0 functions all_functions f.1, f.2)
      | inr m ↦ let b = map_part block_name s blocks m in inr (b.0, b.2)
    ]

pub standard_name_is : (name : List ℕ) (r : Bool)
    → (IsTrue r ↔ (IsFunctionName (raised_all name) ⊎ IsBlockName (raised_all name)))
    → r ≡ is_standard_name name
unfolding is_standard_name
standard_name_is name r h =
    tested (raised_all name) (function_names ++ block_names) r h (among_names (raised_all name))
    (named_among (raised_all name))
    ∙ list_any-append (bytes_eq (raised_all name)) function_names block_names
