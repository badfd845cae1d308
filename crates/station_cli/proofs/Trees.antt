-- The trees of the first form that a text has.
use Rattle.std.proofs.Common.{◌≡◌, ℕ, List, subst}
use Rattle.st_tree.specs.declared.file.SourceTree.{SourceTree as SourceFile}
use Rattle.st_units.specs.SourceTrees.{IsTreeOf, OneTree}
use Rattle.first_form.specs.declared.tree.SourceTree.{SourceTree}
use Rattle.first_form.specs.FirstForm.{IsFirstForm}
use Rattle.first_form.specs.Laws.{OneForm}
use Rattle.station_cli.specs.Report.{IsFormOf}

module _ (one_tree : OneTree) where
  -- a text has one at most,
  pub one_form_of : OneForm → (text : List ℕ) (tree other : SourceTree) → IsFormOf text tree
      → IsFormOf text other → tree ≡ other
  one_form_of one_form text tree other a b =
      let file : a.file ≡ b.file = one_tree text a.file b.file a.parsed b.parsed in
      one_form b.file tree other (subst (λ (f : SourceFile). IsFirstForm f tree) file a.form) b.form

  -- and none where its file is of another form
  pub no_form_of : (text : List ℕ) (file : SourceFile) → IsTreeOf text file
      → ((tree : SourceTree) → IsFirstForm file tree → ⊥) → (tree : SourceTree) → IsFormOf text tree
      → ⊥
  no_form_of text file is none tree t =
      none tree (subst (λ (f : SourceFile). IsFirstForm f tree)
      (one_tree text t.file file t.parsed is) t.form)
