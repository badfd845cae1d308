-- The names that the code knows as declared, and how they are added one after the other.
use Rattle.std.specs.Prelude.{◌≡◌, ◌&&◌, ◌||◌, Bool, true, false, not, [], ◌∷◌, Result, Ok, Err}
use Rattle.std.specs.BTreeSet.{contains_by}
use Rattle.std.specs.Cmp.Lexicographic.{slice_cmp}
use Rattle.std.specs.Ordering.{nat_cmp}
use Rattle.first_form.specs.Names.{Names, has}
use Rattle.first_form.specs.FirstForm.{Known, are_apart}
use Rattle.first_form.specs.declared.names.Declared.{Declared}
use Rattle.first_form.specs.declared.refusal.Refusal.{Refusal}
use Rattle.first_form.specs.declared.refusal.Refusal.TheVariants.{OtherForm, NoMemory}

abbrev pub known_in : Declared → Known
known_in d name = contains_by (λ key. slice_cmp nat_cmp name key.items) d.names

abbrev pub none : Known
none name = false

-- these ones too
abbrev pub knows : Known → Names → Known
knows known names name = known name || has names name

-- none of these is known, or stands among those before it
abbrev pub are_new : Known → Names → Bool
are_new known [] = true
are_new known (name ∷ names) = not (known name) && are_new (knows known (name ∷ [])) names

-- the names are known too, if they are new
abbrev pub Adds : Known → Names → Known → Result (Unit {0}) Refusal → Type 0
Adds old names new (Ok done) = (are_new old names ≡ true) × (new ≡ knows old names)
Adds old names new (Err OtherForm) = are_new old names ≡ false
Adds old names new (Err NoMemory) = Unit {0}

-- these names are known, if none stands twice
abbrev pub Declares : Names → Result Declared Refusal → Type 0
Declares names (Ok d) = (are_apart names ≡ true) × (known_in d ≡ has names)
Declares names (Err OtherForm) = are_apart names ≡ false
Declares names (Err NoMemory) = Unit {0}
