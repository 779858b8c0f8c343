use Rattle.text.proofs.Pairing.{reads_back}
use Rattle.text.proofs.hex.encode.Goals as goal

pub returns-in_err-push-clause-reads_back : goal.returns-in_err-push-clause-reads_back
returns-in_err-push-clause-reads_back c = reads_back c.args.bytes.now (λ i. (c.type_inv.bytes i).fits)

pub returns-in_err-push-2-clause-reads_back : goal.returns-in_err-push-2-clause-reads_back
returns-in_err-push-2-clause-reads_back c = reads_back c.args.bytes.now (λ i. (c.type_inv.bytes i).fits)

pub returns-clause-reads_back : goal.returns-clause-reads_back
returns-clause-reads_back c = reads_back c.args.bytes.now (λ i. (c.type_inv.bytes i).fits)
