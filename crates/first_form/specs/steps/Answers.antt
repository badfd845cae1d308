-- What a function answers that makes a part of a tree of the form: the part that the definitions
-- give, up to its nodes' numbers, or that they give none.
use Rattle.std.specs.Prelude.{◌≡◌, Option, Some, None, Result, Ok, Err}
use Rattle.st_tree.specs.declared.file.SourceTree as written_file
use Rattle.first_form.specs.declared.tree.SourceTree.{SourceTree}
use Rattle.first_form.specs.FirstForm.{IsFirstForm, only_unit, unit_of, ◌>>=◌}
use Rattle.first_form.specs.declared.refusal.Refusal.{Refusal}
use Rattle.first_form.specs.declared.refusal.Refusal.TheVariants.{OtherForm, NoMemory}

abbrev pub Gives : {A B : Type 0} → (A → B) → Option B → Result A Refusal → Type 0
Gives bare form (Ok made) = form ≡ Some (bare made)
Gives bare form (Err OtherForm) = form ≡ None
Gives bare form (Err NoMemory) = Unit {0}

-- the tree of the form, or a refusal where the file is of another one
abbrev pub Recognises : written_file.SourceTree → Result SourceTree Refusal → Type 0
Recognises file (Ok tree) = IsFirstForm file tree
Recognises file (Err OtherForm) = (only_unit file >>= unit_of) ≡ None
Recognises file (Err NoMemory) = Unit {0}
