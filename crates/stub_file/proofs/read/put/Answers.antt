use Rattle.std.proofs.Common.{◌∙◌}
use Rattle.std.proofs.lemmas.Result.{on_ok_weaker}
use Rattle.stub_file.proofs.read.put.Goals as goal

pub returns-clause-put : goal.returns-clause-put
returns-clause-put c =
    on_ok_weaker c.insert.result
    (λ after. record {
      key = c.in-Ok-from_slice.key;
      stub = c.in-Ok.stub;
      key_is = c.in-Ok-from_slice.ensures.items ∙ c.as_bytes.ensures.value;
      faultless = c.in-Ok.ensures.faultless;
      stated = c.in-Ok.ensures.stated;
      own = c.in-Ok.ensures.own;
      after = after;
    })
    c.insert.ensures.ok
