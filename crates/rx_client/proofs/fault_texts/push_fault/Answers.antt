use Rattle.rx_client.proofs.fault_texts.push_fault.Goals as goal

pub returns-in-BlobRefused : goal.returns-in-BlobRefused
returns-in-BlobRefused c = rw c.in-BlobRefused.is c.push_with_status.ensures
