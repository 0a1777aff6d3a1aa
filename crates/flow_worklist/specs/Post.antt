-- Where a row leads: the next pairs of its location and state, and the causes that leave it open.
use Rattle.std.specs.Prelude.{ℕ, Bool, List, [], Option, None, Some, ◌&&◌, ◌==◌, if◌then◌else◌}
use Rattle.domain_laws.specs.Laws.{Values}
use Rattle.memory_map.specs.Image.{Image, EXIT_PLACE, name_at}
use Rattle.x86_syntax.specs.declared.instr.Instr.{Instr}
use Rattle.x86_syntax.specs.Decodes.{decoded}
use Rattle.x86_decoder.specs.Refusals.{is_truncated}
use Rattle.flow_log.specs.declared.cause.Cause.{Cause}
use Rattle.flow_log.specs.declared.cause.Cause.TheVariants as causes
use Rattle.abstract_state.specs.State.{Known}
use Rattle.abstract_state.specs.Expanding.{Expanded, ended, stopped}
use Rattle.stub_file.specs.Stubs.{StatedStubs}
use Rattle.transfer_functions.specs.Fetching.{is_cut, known_run}
use Rattle.transfer_functions.specs.Post.{expand_instr}
use Rattle.import_stubs.specs.Stub.{expand_at}
use Rattle.flow_worklist.specs.declared.site.Site.{Site}
use Rattle.flow_worklist.specs.declared.site.Site.TheVariants.{Exit, Import, Code}

abbrev pub site_by : Option (List ℕ) → Site
site_by None = Code
site_by (Some name) = Import

-- what is at an address: the exit place, an import's place, or code
unfoldable pub site_at : Image → ℕ → Site
site_at image a = if a == EXIT_PLACE then Exit else site_by (name_at image a)

-- why the bytes that a row knows are no instruction: a byte that it does not know ends them, and more of them may be one; and else, that they begin with none
abbrev pub unlisted_cause : Bool → List ℕ → Cause
unlisted_cause cut bytes = if cut && is_truncated bytes then causes.Code else causes.Bytes

-- at code, by the instruction with which the known bytes begin, or none
abbrev pub post_code : {D : Type 0} → Values D → Image → ℕ → Option (Instr × ℕ) → ℕ → Known D → Expanded D
post_code d image k (Some p) a s = expand_instr d image k p.0 a p.1 s
post_code d image k None a s = stopped (unlisted_cause (is_cut d image s a) (known_run d image s a)) []

module _ {D : Type 0} (d : Values D) (image : Image) (stubs : StatedStubs) (k : ℕ) where
  abbrev pub post_at : Site → ℕ → Known D → Expanded D
  post_at Exit a s = ended []
  post_at Import a s = expand_at d image stubs a s
  post_at Code a s = post_code d image k (decoded (known_run d image s a)) a s

  -- the expansion of a row at an address
  unfoldable pub post : ℕ → Known D → Expanded D
  post a s = post_at (site_at image a) a s
