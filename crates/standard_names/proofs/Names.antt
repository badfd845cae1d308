-- The tables of this crate say what the definitions say.
use Rattle.std.proofs.Common.{◌≡◌, ◌↔◌, ℕ, ◌+◌, ◌<◌, ◌≤◌, ◌⊎◌, inl, inr, true, List, [], ◌∷◌, ◌++◌, length, length-append, map, get_or, Some, None, arith, ap, ap₂, subst, subst₂, ◌∙◌, sym, refl}
use Rattle.std.specs.Prelude.{codes}
use Rattle.std.proofs.lemmas.List.{length-map, get_or-map}
use Rattle.std.specs.Prelude.{Option}
use Rattle.std.specs.Option.{MatchOption}
use Rattle.std.specs.List.{Contains}
use Rattle.std.proofs.lemmas.List.Elements.{All-from_recursion, All-contains}
use Rattle.standard_names.specs.declared.block.BlockPart.{BlockPart}
use Rattle.standard_names.specs.Types.{left_out_types, IsTypeName}
use Rattle.standard_names.specs.Joints.{HasNoJoint, IsCut}
use Rattle.std.specs.List.{AllByRecursion}
use Rattle.iec_tables.specs.declared.elem.Elem.{Elem}
use Rattle.iec_tables.specs.declared.elem.Elem.TheVariants.{Sint, Int, Dint, Lint, Usint, Uint, Udint, Ulint, Bool, Byte, Word, Dword, Lword, Time}
use Rattle.iec_tables.specs.Types.{name_of}
use Rattle.standard_names.specs.declared.types.TheConstants.{ELEMS}
use Rattle.standard_names.specs.declared.block.TheConstants.{BLOCKS}
use Rattle.standard_names.specs.declared.block.StandardBlock.{StandardBlock}
use Rattle.standard_names.specs.declared.block.StandardBlock.TheVariants.{Sr, Rs, RTrig, FTrig, Ctu, Ctd, Ton, Tof, Tp}
use Rattle.standard_names.specs.declared.function.TheConstants.{FUNCTIONS}
use Rattle.standard_names.specs.declared.function.StandardFunction.{StandardFunction}
use Rattle.standard_names.specs.declared.function.StandardFunction.TheVariants.{Abs, Min, Max, Limit, Sel, Shl, Shr, Rol, Ror, Convert}
use Rattle.standard_names.specs.Blocks.{Seen, block_name, part_of, HasNoPart}
use Rattle.standard_names.specs.Functions.{function_name, conversion_name, joined, IsPlain, IsFunction, IsLeftOutConversion}
use Rattle.standard_names.proofs.Joining.{clear, cut-is, cut-of, unjoined}
use Rattle.standard_names.proofs.Rows.{among, pick, alike}

abbrev pub AnyElem : Elem → Type 0
AnyElem t = Unit {0}

pub all_any : (values : List Elem) → AllByRecursion AnyElem values
all_any [] = tt
all_any (t ∷ ts) = (tt, all_any ts)

elem-back : (t : Elem) → AnyElem t → pick name_of Bool ELEMS (name_of t) ≡ t
elem-back Sint _ = refl
elem-back Int _ = refl
elem-back Dint _ = refl
elem-back Lint _ = refl
elem-back Usint _ = refl
elem-back Uint _ = refl
elem-back Udint _ = refl
elem-back Ulint _ = refl
elem-back Bool _ = refl
elem-back Byte _ = refl
elem-back Word _ = refl
elem-back Dword _ = refl
elem-back Lword _ = refl
elem-back Time _ = refl

pub elems-alike : (a b : Elem) → AnyElem a → AnyElem b → name_of a ≡ name_of b → a ≡ b
elems-alike = alike name_of AnyElem Bool ELEMS elem-back

pub elem-among : (t : Elem) → AnyElem t → among (map name_of ELEMS) (name_of t) ≡ true
elem-among Sint _ = refl
elem-among Int _ = refl
elem-among Dint _ = refl
elem-among Lint _ = refl
elem-among Usint _ = refl
elem-among Uint _ = refl
elem-among Udint _ = refl
elem-among Ulint _ = refl
elem-among Bool _ = refl
elem-among Byte _ = refl
elem-among Word _ = refl
elem-among Dword _ = refl
elem-among Lword _ = refl
elem-among Time _ = refl

pub elem-clear : (t : Elem) → clear (name_of t) ≡ true
elem-clear Sint = refl
elem-clear Int = refl
elem-clear Dint = refl
elem-clear Lint = refl
elem-clear Usint = refl
elem-clear Uint = refl
elem-clear Udint = refl
elem-clear Ulint = refl
elem-clear Bool = refl
elem-clear Byte = refl
elem-clear Word = refl
elem-clear Dword = refl
elem-clear Lword = refl
elem-clear Time = refl

elem-long : (t : Elem) → 3 ≤ length (name_of t)
elem-long Sint = omega arith
elem-long Int = omega arith
elem-long Dint = omega arith
elem-long Lint = omega arith
elem-long Usint = omega arith
elem-long Uint = omega arith
elem-long Udint = omega arith
elem-long Ulint = omega arith
elem-long Bool = omega arith
elem-long Byte = omega arith
elem-long Word = omega arith
elem-long Dword = omega arith
elem-long Lword = omega arith
elem-long Time = omega arith

-- ---- blocks

abbrev pub AnyBlock : StandardBlock → Type 0
AnyBlock b = Unit {0}

pub all_any_block : (values : List StandardBlock) → AllByRecursion AnyBlock values
all_any_block [] = tt
all_any_block (b ∷ bs) = (tt, all_any_block bs)

block-back : (b : StandardBlock) → AnyBlock b → pick block_name Sr BLOCKS (block_name b) ≡ b
block-back Sr _ = refl
block-back Rs _ = refl
block-back RTrig _ = refl
block-back FTrig _ = refl
block-back Ctu _ = refl
block-back Ctd _ = refl
block-back Ton _ = refl
block-back Tof _ = refl
block-back Tp _ = refl

pub blocks-alike : (a b : StandardBlock) → AnyBlock a → AnyBlock b → block_name a ≡ block_name b → a ≡ b
blocks-alike = alike block_name AnyBlock Sr BLOCKS block-back

pub block-among : (b : StandardBlock) → AnyBlock b → among (map block_name BLOCKS) (block_name b) ≡ true
block-among Sr _ = refl
block-among Rs _ = refl
block-among RTrig _ = refl
block-among FTrig _ = refl
block-among Ctu _ = refl
block-among Ctd _ = refl
block-among Ton _ = refl
block-among Tof _ = refl
block-among Tp _ = refl

-- ---- functions

pub all_plain : AllByRecursion IsPlain FUNCTIONS
all_plain = (tt, (tt, (tt, (tt, (tt, (tt, (tt, (tt, (tt, tt)))))))))

plain-back : (f : StandardFunction) → IsPlain f → pick function_name Abs FUNCTIONS (function_name f) ≡ f
plain-back Abs _ = refl
plain-back Min _ = refl
plain-back Max _ = refl
plain-back Limit _ = refl
plain-back Sel _ = refl
plain-back Shl _ = refl
plain-back Shr _ = refl
plain-back Rol _ = refl
plain-back Ror _ = refl
plain-back (Convert a b) h = absurd h

pub plain-among : (f : StandardFunction) → IsPlain f → among (map function_name FUNCTIONS) (function_name f) ≡ true
plain-among Abs _ = refl
plain-among Min _ = refl
plain-among Max _ = refl
plain-among Limit _ = refl
plain-among Sel _ = refl
plain-among Shl _ = refl
plain-among Shr _ = refl
plain-among Rol _ = refl
plain-among Ror _ = refl
plain-among (Convert a b) h = absurd h

plain-short : (f : StandardFunction) → IsPlain f → length (function_name f) ≤ 5
plain-short Abs _ = omega arith
plain-short Min _ = omega arith
plain-short Max _ = omega arith
plain-short Limit _ = omega arith
plain-short Sel _ = omega arith
plain-short Shl _ = omega arith
plain-short Shr _ = omega arith
plain-short Rol _ = omega arith
plain-short Ror _ = omega arith
plain-short (Convert a b) h = absurd h

pub plain-is : (f : StandardFunction) → IsPlain f → IsFunction f
plain-is Abs _ = tt
plain-is Min _ = tt
plain-is Max _ = tt
plain-is Limit _ = tt
plain-is Sel _ = tt
plain-is Shl _ = tt
plain-is Shr _ = tt
plain-is Rol _ = tt
plain-is Ror _ = tt
plain-is (Convert a b) h = absurd h

converted-long : (a b : Elem) → 10 ≤ length (conversion_name a b)
converted-long a b =
    let la = elem-long a in
    let lb = elem-long b in
    let whole : length (conversion_name a b) ≡ length (name_of a) + length (codes "_TO_" ++ name_of b) = length-append (name_of a) (codes "_TO_" ++ name_of b) in
    let rest : length (codes "_TO_" ++ name_of b) ≡ 4 + length (name_of b) = length-append (codes "_TO_") (name_of b) in
    omega arith

-- no conversion, or the conversion between two types
data Kind : StandardFunction → Type 0 where
  plain : (f : StandardFunction) → IsPlain f → Kind f
  converts : (a b : Elem) → Kind (Convert a b)

kind : (f : StandardFunction) → Kind f
kind Abs = plain Abs tt
kind Min = plain Min tt
kind Max = plain Max tt
kind Limit = plain Limit tt
kind Sel = plain Sel tt
kind Shl = plain Shl tt
kind Shr = plain Shr tt
kind Rol = plain Rol tt
kind Ror = plain Ror tt
kind (Convert a b) = converts a b

apart : (f : StandardFunction) (a b : Elem) → IsPlain f → function_name f ≡ conversion_name a b → ⊥
apart f a b h e =
    let short = plain-short f h in
    let long = converted-long a b in
    let same : length (function_name f) ≡ length (conversion_name a b) = ap length e in
    omega arith

alike-of : (f g : StandardFunction) → Kind f → Kind g → function_name f ≡ function_name g → f ≡ g
alike-of f g (plain _ h) (plain _ k) e = alike function_name IsPlain Abs FUNCTIONS plain-back f g h k e
alike-of f g (plain _ h) (converts a b) e = absurd (apart f a b h e)
alike-of f g (converts a b) (plain _ k) e = absurd (apart g a b k (sym e))
alike-of f g (converts a b) (converts c d) e =
    let parts = cut-is (conversion_name a b) (name_of a) (name_of b) (name_of c) (name_of d) (cut-of (name_of a) (name_of b) (elem-clear a)) (elem-clear c) (sym e) in
    ap₂ Convert (elems-alike a c tt tt parts.0) (elems-alike b d tt tt parts.1)

pub functions-alike : (f g : StandardFunction) → IsFunction f → IsFunction g → function_name f ≡ function_name g → f ≡ g
functions-alike f g _ _ e = alike-of f g (kind f) (kind g) e

none-of : (s : List ℕ) → ((f : StandardFunction) → IsPlain f → ¬ (function_name f ≡ s)) → ((a b : Elem) → ¬ (a ≡ b) → ¬ (conversion_name a b ≡ s))
    → (f : StandardFunction) → Kind f → IsFunction f → ¬ (function_name f ≡ s)
none-of s h k f (plain _ p) is e = h f p e
none-of s h k f (converts a b) is e = k a b is e

pub no-function : (s : List ℕ) → ((f : StandardFunction) → IsPlain f → ¬ (function_name f ≡ s)) → ((a b : Elem) → ¬ (a ≡ b) → ¬ (conversion_name a b ≡ s))
    → (f : StandardFunction) → IsFunction f → ¬ (function_name f ≡ s)
no-function s h k f is = none-of s h k f (kind f) is

-- ---- conversions

pub converted : (s x y : List ℕ) → IsCut s x y → (f t : Option Elem) → ((e : Elem) → (f ≡ Some e) ↔ (name_of e ≡ x)) → ((e : Elem) → (t ≡ Some e) ↔ (name_of e ≡ y))
    → (r : Option (Elem × Elem)) → MatchOption r ((a b : Elem) → f ≡ Some a → t ≡ Some b → a ≡ b) (λ pair. ¬ (pair.0 ≡ pair.1) × (f ≡ Some pair.0) × (t ≡ Some pair.1))
    → MatchOption r ((a b : Elem) → ¬ (a ≡ b) → ¬ (conversion_name a b ≡ s)) (λ pair. ¬ (pair.0 ≡ pair.1) × (conversion_name pair.0 pair.1 ≡ s))
converted s x y c f t hf ht None h = λ a b ne e.
    let parts = cut-is s x y (name_of a) (name_of b) c (elem-clear a) e in
    ne (h a b ((hf a).1 (sym parts.0)) ((ht b).1 (sym parts.1)))
converted s x y c f t hf ht (Some p) h =
    (h.0, ap₂ joined ((hf p.0).0 h.1) ((ht p.1).0 h.2) ∙ sym c.parts)

left-clear : AllByRecursion (λ name. clear name ≡ true) left_out_types
left-clear = (refl, (refl, (refl, (refl, (refl, (refl, (refl, (refl, (refl, (refl, (refl, (refl, (refl, (refl, (refl, (refl, (refl, tt)))))))))))))))))

type-clear : (name : List ℕ) → IsTypeName name → clear name ≡ true
type-clear name h = elim h [
  | inl e ↦ ap clear (sym e.1) ∙ elem-clear e.0
  | inr k ↦ All-contains (λ n. clear n ≡ true) left_out_types name (All-from_recursion (λ n. clear n ≡ true) left_out_types left-clear) k
]

pub conversion-made : (s x y : List ℕ) → IsCut s x y → IsTypeName x → IsTypeName y → Contains left_out_types x ⊎ Contains left_out_types y → IsLeftOutConversion s
conversion-made s x y c a b l = record { from = x; to = y; name_is = sym c.parts; from_type = a; to_type = b; left_out = l }

pub conversion-parts : (s x y : List ℕ) → IsCut s x y → IsLeftOutConversion s → IsTypeName x × IsTypeName y × (Contains left_out_types x ⊎ Contains left_out_types y)
conversion-parts s x y c r =
    let parts = cut-is s x y r.from r.to c (type-clear r.from r.from_type) r.name_is in (
      subst IsTypeName (sym parts.0) r.from_type,
      subst IsTypeName (sym parts.1) r.to_type,
      subst₂ (λ (a b : List ℕ). Contains left_out_types a ⊎ Contains left_out_types b) (sym parts.0) (sym parts.1) r.left_out,
    )

pub no-conversion : (s : List ℕ) → HasNoJoint s → ¬ (IsLeftOutConversion s)
no-conversion s none r = unjoined s r.from r.to none r.name_is

-- ---- parts of blocks

pub part-there : (parts : List BlockPart) (seen : List Seen) → map part_of parts ≡ seen → (k : ℕ) (d : BlockPart) → k < length parts → Contains seen (part_of (get_or parts k d))
part-there parts seen e k d l =
    subst (λ (xs : List Seen). Contains xs (part_of (get_or parts k d))) e
    (k, omega (arith, length-map parts part_of), get_or-map part_of parts k d (part_of (get_or parts k d)) l)

no-part-at : (parts : List BlockPart) (s : List ℕ) → ((k : ℕ) (d : BlockPart) → k < length parts → ¬ ((get_or parts k d).name.now ≡ s))
    → (part : Seen) (k : ℕ) → k < length (map part_of parts) → get_or (map part_of parts) k part ≡ part → ¬ (part.0 ≡ s)
no-part-at [] s h part k l e is = absurd (omega arith)
no-part-at (p ∷ ps) s h part k l e is =
    let within : k < length (p ∷ ps) = omega (arith, length-map (p ∷ ps) part_of) in
    h k p within (ap (λ (q : Seen). q.0) (sym (get_or-map part_of (p ∷ ps) k p part within) ∙ e) ∙ is)

pub no-part : (parts : List BlockPart) (seen : List Seen) (s : List ℕ) → map part_of parts ≡ seen
    → ((k : ℕ) (d : BlockPart) → k < length parts → ¬ ((get_or parts k d).name.now ≡ s)) → HasNoPart seen s
no-part parts seen s e h = subst (λ (xs : List Seen). HasNoPart xs s) e (λ part c. no-part-at parts s h part c.0 c.1 c.2)
