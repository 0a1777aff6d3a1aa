-- Values fetched and kept by statements are operands read and written.
use Rattle.std.proofs.Common.{◌≡◌, ℕ, ◌%◌, Bool, true, false, cond, List, ◌∷◌, ◌++◌, refl, ap, ◌∙◌, slice_index, slice_set}
use std.Path.{fun_ext}
use Rattle.bit_words.specs.declared.width.Width.{Width}
use Rattle.bit_words.specs.declared.width.Width.TheVariants.{B8, B16, B32}
use Rattle.memory_map.specs.declared.choice.Choice.{Choice}
use Rattle.memory_map.specs.State.{MachineState}
use Rattle.x86_syntax.specs.declared.instr.Operand.{Operand}
use Rattle.x86_syntax.specs.declared.instr.Operand.TheVariants.{Register, Number, Memory, Offset}
use Rattle.x86_semantics.specs.Registers.{part, with_part}
use Rattle.x86_semantics.specs.Operands.{Ended, loading, storing, reading, writing}
use Rattle.statement_lang.specs.declared.stmt.Stmt.{Stmt}
use Rattle.statement_lang.specs.Run.{Temps, run, run_from}
use Rattle.x86_lifter.specs.Pieces.{places, fetching, keeping, fetching_register, keeping_register}
use Rattle.x86_lifter.proofs.Places.{place, placed, placed_temps, temps}

pub fetched : (op : Operand) (k j : ℕ) (rest : List Stmt) (c : Choice) (m : MachineState) (t : Temps) → slice_index t (k % 16) ≡ place m op
    → run_from (fetching op k j ∷ rest) 0 c m t ≡ reading m op (λ v. run_from rest 0 c m (slice_set t (j % 16) v))
fetched (Register B8 r) k j rest c m t at = refl
fetched (Register B16 r) k j rest c m t at = refl
fetched (Register B32 r) k j rest c m t at = refl
fetched (Number w n) k j rest c m t at = refl
fetched (Memory w a) k j rest c m t at = ap (λ x. loading m w x (λ v. run_from rest 0 c m (slice_set t (j % 16) v))) at
fetched (Offset o) k j rest c m t at = refl

pub kept : (op : Operand) (k j : ℕ) (rest : List Stmt) (c : Choice) (m : MachineState) (t : Temps) → slice_index t (k % 16) ≡ place m op
    → run_from (keeping op k j ∷ rest) 0 c m t ≡ writing m op (slice_index t (j % 16)) (λ n. run_from rest 0 c n t)
kept (Register B8 r) k j rest c m t at = refl
kept (Register B16 r) k j rest c m t at = refl
kept (Register B32 r) k j rest c m t at = refl
kept (Number w n) k j rest c m t at = refl
kept (Memory w a) k j rest c m t at = ap (λ x. storing m w x (slice_index t (j % 16)) (λ n. run_from rest 0 c n t)) at
kept (Offset o) k j rest c m t at = refl

pub fetched-register : (w : Width) (r j : ℕ) (rest : List Stmt) (c : Choice) (m : MachineState) (t : Temps)
    → run_from (fetching_register w r j ∷ rest) 0 c m t ≡ run_from rest 0 c m (slice_set t (j % 16) (part w r m))
fetched-register B8 r j rest c m t = refl
fetched-register B16 r j rest c m t = refl
fetched-register B32 r j rest c m t = refl

pub kept-register : (w : Width) (r j : ℕ) (rest : List Stmt) (c : Choice) (m : MachineState) (t : Temps)
    → run_from (keeping_register w r j ∷ rest) 0 c m t ≡ run_from rest 0 c (with_part w r (slice_index t (j % 16)) m) t
kept-register B8 r j rest c m t = refl
kept-register B16 r j rest c m t = refl
kept-register B32 r j rest c m t = refl

-- ---- equal continuations

pub reading-same : (m : MachineState) (op : Operand) (j k : ℕ → Ended) → ((v : ℕ) → j v ≡ k v) → reading m op j ≡ reading m op k
reading-same m op j k h = ap (reading m op) (fun_ext h)

pub writing-same : (m : MachineState) (op : Operand) (v : ℕ) (j k : MachineState → Ended) → ((n : MachineState) → j n ≡ k n) → writing m op v j ≡ writing m op v k
writing-same m op v j k h = ap (writing m op v) (fun_ext h)

pub loading-same : (m : MachineState) (w : Width) (a : ℕ) (j k : ℕ → Ended) → ((v : ℕ) → j v ≡ k v) → loading m w a j ≡ loading m w a k
loading-same m w a j k h = ap (loading m w a) (fun_ext h)

pub storing-same : (m : MachineState) (w : Width) (a v : ℕ) (j k : MachineState → Ended) → ((n : MachineState) → j n ≡ k n) → storing m w a v j ≡ storing m w a v k
storing-same m w a v j k h = ap (storing m w a v) (fun_ext h)

-- ---- a choice of values is a choice of ends

pub inside : {A : Type 0} (k : A → Ended) (b : Bool) (x y : A) → cond b (k x) (k y) ≡ k (cond b x y)
inside k true x y = refl
inside k false x y = refl

-- ---- the values of an operand, or of two, after their addresses

pub run-one : (x y : Operand) (rest : List Stmt) (c : Choice) (m : MachineState)
    → run (places x y ++ (fetching x 0 2 ∷ rest)) c m ≡ reading m x (λ a. run_from rest 0 c m (temps (place m x) (place m y) a 0 0 0 0))
unfolding run
run-one x y rest c m = placed x y (fetching x 0 2 ∷ rest) c m ∙ fetched x 0 2 rest c m (placed_temps m x y) refl

pub run-second : (x y : Operand) (rest : List Stmt) (c : Choice) (m : MachineState)
    → run (places x y ++ (fetching y 1 3 ∷ rest)) c m ≡ reading m y (λ b. run_from rest 0 c m (temps (place m x) (place m y) 0 b 0 0 0))
unfolding run
run-second x y rest c m = placed x y (fetching y 1 3 ∷ rest) c m ∙ fetched y 1 3 rest c m (placed_temps m x y) refl

pub run-two : (x y : Operand) (rest : List Stmt) (c : Choice) (m : MachineState)
    → run (places x y ++ (fetching x 0 2 ∷ fetching y 1 3 ∷ rest)) c m
    ≡ reading m x (λ a. reading m y (λ b. run_from rest 0 c m (temps (place m x) (place m y) a b 0 0 0)))
run-two x y rest c m =
    run-one x y (fetching y 1 3 ∷ rest) c m ∙ reading-same m x _ _ (λ a. fetched y 1 3 rest c m (temps (place m x) (place m y) a 0 0 0 0) refl)

-- the first of two operands kept
pub kept-first : (x : Operand) (j : ℕ) (rest : List Stmt) (c : Choice) (m : MachineState) (t1 t2 t3 t4 t5 t6 : ℕ)
    → run_from (keeping x 0 j ∷ rest) 0 c m (temps (place m x) t1 t2 t3 t4 t5 t6)
    ≡ writing m x (slice_index (temps (place m x) t1 t2 t3 t4 t5 t6) (j % 16)) (λ n. run_from rest 0 c n (temps (place m x) t1 t2 t3 t4 t5 t6))
kept-first x j rest c m t1 t2 t3 t4 t5 t6 = kept x 0 j rest c m (temps (place m x) t1 t2 t3 t4 t5 t6) refl
