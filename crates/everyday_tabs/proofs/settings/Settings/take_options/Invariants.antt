use Rattle.std.proofs.Common.{◌≡◌, drop, map}
use Rattle.everyday_tabs.specs.Words.{settings_of, with_options}
use Rattle.everyday_tabs.proofs.settings.Settings.take_options.Given as goal

-- the rest of the options decides
abbrev pub invariant-loop-option : goal.invariant-loop-option
invariant-loop-option l = with_options (settings_of l.self) l.word (map (λ o. o.now) (drop l.option-index l.options))
    ≡ with_options (settings_of l.initial.self) l.word (map (λ o. o.now) l.options)
