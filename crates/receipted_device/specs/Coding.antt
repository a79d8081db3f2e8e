-- Machinery of the proofs: a replica's value as the pair of its parts, by which a proof tells two values apart.
use Rattle.std.specs.Prelude.{List, refl}
use Rattle.std.specs.Coded.{Coded, code_by, coded×, coded_list}
use Rattle.photo_device.specs.Coding.{kept_code}
use Rattle.photo_device.specs.Device.{Kept}
use Rattle.receipted_device.specs.declared.receipt.Receipt.{Receipt}
use Rattle.receipted_device.specs.contracts.receipt.Receipt as receipt
use Rattle.receipted_device.specs.Shown.{KeptReplica}

abbrev pub replica_code : Coded KeptReplica
replica_code = code_by (Kept × List Receipt) (coded× kept_code (coded_list receipt.the_row.coded)) (λ r. (r.device, r.receipts)) (λ p. record { device = p.0; receipts = p.1 }) (λ _. refl)
