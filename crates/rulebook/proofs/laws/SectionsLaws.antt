-- Sections compared. Assumes nothing.
use Rattle.std.specs.Prelude.{◌≡◌, refl, T}
use Rattle.rulebook.specs.declared.Section.{Section}
use Rattle.rulebook.specs.declared.Section.TheVariants.{Vesting, Meter, Residual, Ncc}
use Rattle.rulebook.specs.Sections.{same_section}

pub same_section_lem : (s t : Section) → T (same_section s t) → s ≡ t
same_section_lem Vesting Vesting h = refl
same_section_lem Vesting Meter h = absurd h
same_section_lem Vesting Residual h = absurd h
same_section_lem Vesting Ncc h = absurd h
same_section_lem Meter Vesting h = absurd h
same_section_lem Meter Meter h = refl
same_section_lem Meter Residual h = absurd h
same_section_lem Meter Ncc h = absurd h
same_section_lem Residual Vesting h = absurd h
same_section_lem Residual Meter h = absurd h
same_section_lem Residual Residual h = refl
same_section_lem Residual Ncc h = absurd h
same_section_lem Ncc Vesting h = absurd h
same_section_lem Ncc Meter h = absurd h
same_section_lem Ncc Residual h = absurd h
same_section_lem Ncc Ncc h = refl

pub section-self : (s : Section) → T (same_section s s)
section-self Vesting = tt
section-self Meter = tt
section-self Residual = tt
section-self Ncc = tt
