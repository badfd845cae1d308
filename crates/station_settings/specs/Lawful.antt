-- Which settings are lawful: those that a text may have. Source: this profile. It speaks of
-- settings alone, so that whoever takes them may ask for it.
use Rattle.std.specs.Prelude.{Bool, ◌&&◌, ◌≤◌, IsTrue, length}
use Rattle.std.specs.List.{list_all}
use Rattle.st_tree.specs.declared.settings.Settings.{Settings}
use Rattle.st_tree.specs.declared.settings.CallerKey.{CallerKey}
use Rattle.project_keeper.specs.Names.{is_within, is_name}
use Rattle.station_settings.specs.Schema.{is_prefix, is_key, all_differ}

abbrev pub is_lawful_caller : CallerKey → Bool
is_lawful_caller caller = is_name caller.name && is_key caller.key

pub record IsLawful (settings : Settings) : Type 0 where
  pub name_min : IsTrue (is_within 1 128 settings.name_min)
  pub name_max : IsTrue (is_within settings.name_min 128 settings.name_max)
  pub max_nesting : IsTrue (is_within 1 64 settings.max_nesting)
  pub max_statements : IsTrue (is_within 1 100000 settings.max_statements)
  pub global_prefix : IsTrue (is_prefix settings.global_prefix)
  pub disabled : IsTrue (list_all (is_within 1 24) settings.disabled)
  pub callers : length settings.callers ≤ 64
  pub each_caller : IsTrue (list_all is_lawful_caller settings.callers)
  pub callers_differ : IsTrue (all_differ settings.callers)
