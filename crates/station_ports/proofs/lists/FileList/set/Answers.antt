use Rattle.std.proofs.Common.{subst, sym}
use Rattle.station_ports.specs.declared.lists.FileEntry.{FileEntry}
use Rattle.station_ports.specs.declared.lists.TheConstants.{MAX_FILES}
use Rattle.station_ports.specs.Lists.{NamesApart, has_name}
use Rattle.station_ports.proofs.Entries.{set_or_not, fits_after, placed_apart, by_name}
use Rattle.station_ports.proofs.lists.FileList.set.Goals as goal

pub invariant_of-self : goal.invariant_of-self
invariant_of-self c =
    let files = c.self.inside.entries.items in
    let new = c.set_file.new.entries.items in
    let entry : FileEntry = record { name = c.args.name; text = c.args.text } in
    set_or_not c.set_file.result c.set_file.ensures.set c.set_file.ensures.refused
    (λ e. (
      subst NamesApart (sym e) (placed_apart (λ (one : FileEntry). has_name one.name) by_name entry files c.self.invariant.0),
      fits_after MAX_FILES entry files new (rw (← c.self.view_is) at c.requires) c.self.invariant.1 e,
    ))
    (λ e. rw e c.self.invariant)
