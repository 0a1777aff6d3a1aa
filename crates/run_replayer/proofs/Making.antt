-- Steps that are made one after another, as a run records them.
use Rattle.std.proofs.Common.{◌≡◌, ℕ, zero, suc, ◌+◌, ◌-◌, ◌<◌, List, [], ◌∷◌, ◌++◌, drop, refl, sym, ◌∙◌, ap, subst, inl, inr, arith, append_assoc, append-nil}
use Rattle.memory_map.specs.declared.choice.Choice.{Choice}
use Rattle.memory_map.specs.Image.{Image}
use Rattle.memory_map.specs.State.{MachineState}
use Rattle.stub_file.specs.Stubs.{StatedStubs}
use Rattle.x86_machine.specs.StepBy.{StepBy, stepped}
use Rattle.run_replayer.specs.declared.record.EndWord.{EndWord}
use Rattle.run_replayer.specs.declared.record.EndWord.TheVariants as ends
use Rattle.run_replayer.specs.declared.record.RunStep.{RunStep}
use Rattle.run_replayer.specs.Record.{AreMade, Stops, later_choices, next_choice, recorded_step}

later_choices-drop : (n : ℕ) (choices : List Choice) → later_choices (drop n choices) ≡ drop (suc n) choices
later_choices-drop zero [] = refl
later_choices-drop zero (c ∷ cs) = refl
later_choices-drop (suc n) [] = refl
later_choices-drop (suc n) (c ∷ cs) = later_choices-drop n cs

module _ (image : Image) (stubs : StatedStubs) (count : ℕ) (choices : List Choice) (start : MachineState) where
  -- with these steps made from the start, so many, and the machine in a state, what is made from there on completes them
  pub record AreMaking (made : List RunStep) (done : ℕ) (m : MachineState) : Type 0 where
    pub goes : (rest : List RunStep) (end : EndWord) → AreMade image stubs (count - done) (drop done choices) m rest end
        → AreMade image stubs count choices start (made ++ rest) end

  pub none_made : AreMaking [] 0 start
  none_made = record {
    goes = λ rest end h. (let left : count - 0 ≡ count = omega arith in let P : ℕ → Type 0 = λ k. AreMade image stubs k choices start rest end in subst P left h);
  }

  pub one_more : (made : List RunStep) (done : ℕ) (m next : MachineState) (s : RunStep) → AreMaking made done m → done < count
      → StepBy image stubs (next_choice (drop done choices)) m (stepped next) → s ≡ recorded_step m (next_choice (drop done choices)) next
      → AreMaking (made ++ s ∷ []) (done + 1) next
  unfolding AreMade
  one_more made done m next s making below comes is = record {
    goes = λ rest end h. (
        let left : count - done ≡ suc (count - (done + 1)) = omega arith in
        let after : later_choices (drop done choices) ≡ drop (done + 1) choices =
        later_choices-drop done choices ∙ ap (λ k. drop k choices) (let e : suc done ≡ done + 1 = omega arith in e) in
        let P : List Choice → Type 0 = λ cs. AreMade image stubs (count - (done + 1)) cs next rest end in
        let goes : AreMade image stubs (count - (done + 1)) (later_choices (drop done choices)) next rest end = subst P (sym after) h in
        let all : AreMade image stubs (suc (count - (done + 1))) (drop done choices) m (s ∷ rest) end =
        inr (record { next = next; rest = rest; comes = comes; first = ap (λ t. t ∷ rest) is; goes = goes }) in
        let Q : ℕ → Type 0 = λ k. AreMade image stubs k (drop done choices) m (s ∷ rest) end in
        let R : List RunStep → Type 0 = λ steps. AreMade image stubs count choices start steps end in
        subst R (sym (append_assoc made (s ∷ []) rest)) (making.goes (s ∷ rest) end (subst Q (sym left) all))
        );
  }

  whole : (made : List RunStep) (end : EndWord) → AreMade image stubs count choices start (made ++ []) end → AreMade image stubs count choices start made end
  whole made end h = let R : List RunStep → Type 0 = λ steps. AreMade image stubs count choices start steps end in subst R (append-nil made) h

  pub all_made : (made : List RunStep) (done : ℕ) (m : MachineState) → AreMaking made done m → done ≡ count → AreMade image stubs count choices start made ends.Steps
  unfolding AreMade
  all_made made done m making is =
      let left : 0 ≡ count - done = omega arith in
      let P : ℕ → Type 0 = λ k. AreMade image stubs k (drop done choices) m [] ends.Steps in
      let none : AreMade image stubs 0 (drop done choices) m [] ends.Steps = (refl, refl) in
      whole made ends.Steps (making.goes [] ends.Steps (subst P left none))

  pub stopped : (made : List RunStep) (done : ℕ) (m : MachineState) (end : EndWord) → AreMaking made done m → done < count
      → Stops image stubs (next_choice (drop done choices)) m end → AreMade image stubs count choices start made end
  unfolding AreMade
  stopped made done m end making below stops =
      let left : suc (count - (done + 1)) ≡ count - done = omega arith in
      let P : ℕ → Type 0 = λ k. AreMade image stubs k (drop done choices) m [] end in
      let none : AreMade image stubs (suc (count - (done + 1))) (drop done choices) m [] end = inl (refl, stops) in
      whole made end (making.goes [] end (subst P left none))
