-- The settings of a review for which none are given. Source: this profile.
use Rattle.std.specs.Prelude.{[], ◌∷◌}
use Rattle.st_tree.specs.declared.settings.Settings.{Settings}

-- The rule of number 7 is disabled.
abbrev pub defaults : Settings
defaults =
    record {
      name_min = 1;
      name_max = 32;
      max_nesting = 6;
      max_statements = 500;
      global_prefix = [];
      disabled = 7 ∷ [];
      callers = [];
    }
