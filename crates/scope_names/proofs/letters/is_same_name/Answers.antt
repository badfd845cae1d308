use Rattle.std.proofs.Common.{ap, sym, ◌∙◌}
use Rattle.std.specs.Ordering.{is_eq, nat_cmp}
use Rattle.std.proofs.lemmas.Cmp.{nat_list_cmp_total, tied_itself}
use Rattle.std.proofs.lemmas.Map.Lookups.{exact_bytes}
use Rattle.std.specs.Cmp.{Equal-is}
use Rattle.std.specs.Cmp.Lexicographic.{slice_cmp}
use Rattle.iec_tables.specs.Words.{raised_all}
use Rattle.scope_names.proofs.letters.is_same_name.Goals as goal

pub returns-then-a-b : goal.returns-then-a-b
returns-then-a-b c =
    let a = raised_all c.args.a.now in
    let b = raised_all c.args.b.now in (
      λ h. exact_bytes a b (sym c.compare_names.ensures ∙ (Equal-is c.compare_names.result).0 (sym c.is_eq.ensures ∙ h)),
      λ h. c.is_eq.ensures ∙ ap is_eq (c.compare_names.ensures ∙ sym (ap (slice_cmp nat_cmp a) h) ∙ tied_itself nat_list_cmp_total a),
    )
