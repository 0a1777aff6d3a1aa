-- The automaton of a log can be printed in each version.
use Rattle.std.proofs.Common.{◌≡◌, sym, subst}
use Rattle.automaton_text.specs.declared.automaton.Automaton.{Automaton}
use Rattle.jakstab_core.specs.Headline.{in_version, recovered}
use Rattle.jakstab_core.proofs.Printing.{IsPrintable, found_over, printable}
use Rattle.jakstab_core.proofs.recover.recovered_text.Goals as goal

pub print_automaton-requires : goal.print_automaton-requires
print_automaton-requires g c =
    let options = c.args.options in
    let P : Automaton → Type 0 = λ a. IsPrintable (in_version c.args.version a) in
    let there : IsPrintable (in_version c.args.version c.in_ok-automaton.automaton) =
    subst P (sym c.in_ok-automaton.ensures) (printable c.args.version (recovered c.args.image.now c.args.stubs.now options) (found_over options.domain c.args.image.now c.args.stubs.now options.k options.budget)) in
    let Q : Automaton → Type 0 = IsPrintable in
    let told : IsPrintable c.in_version.result = subst Q (sym c.in_version.ensures) there in
    record { spelled = told.spelled; version = told.version; rows = told.rows }
