-- The walk over the groups of an upload.
use Rattle.std.proofs.Common.{◌≡◌, ◌∙◌, List, [], ◌++◌, Ok, refl, sym, subst}
use Rattle.std.proofs.lemmas.List.{append-nil, append_assoc, map-append}
use Rattle.rx_base.specs.declared.digests.Digest.{Digest}
use Rattle.rx_world.specs.declared.sources.Sources as sources
use Rattle.rx_world.specs.declared.world.World as world
use Rattle.rx_exec_messages.specs.declared.callers.Caller as callers
use Rattle.rx_exec_messages.specs.Calls.{IsPartOf}
use Rattle.rx_exec_messages.specs.Exchanged.{HasExchanged}
use Rattle.rx_exec_messages.proofs.ExchangedLemmas.{exchanges-are, exchanges-then, no-exchange}
use Rattle.rx_blobs.specs.declared.blob_fault.BlobFault.{BlobFault}
use Rattle.rx_blobs.specs.declared.blob_fault.BlobFault.TheVariants as faults
use Rattle.rx_blobs.specs.declared.blobs.Blob.{Blob}
use Rattle.rx_blobs.specs.Uploads.{HasRead, IsFailedUpload, IsReadEnd, IsUploaded, IsUploading, IsWithin, digest_of_blob, digests_of_blobs}
use Rattle.rx_blobs.proofs.UploadLemmas.{stopped, uploaded-both, uploaded-failed, uploaded-none}
use Rattle.rx_blobs.proofs.UploadLists.{part-append, within-middle}
use Rattle.rx_blobs.proofs.UploadReads.{read-none, read-then}

module _ {C T W : Type 0} (w : world.Ghosts W) (c : callers.Ghosts C W) (s : sources.Ghosts T W) where
  pub uploading-starts : (x : C) (y : T) (blobs : List Blob) → IsUploading w c s x x y y blobs blobs []
  uploading-starts x y blobs = record {
    done = [];
    blobs_are = refl;
    left_part = tt;
    exchanged = no-exchange c (IsUploaded [] []) x uploaded-none;
    read = read-none w s y blobs (λ answers. Unit {0}) tt;
  }

  pub group-within : (old now : C) (before between : T) (blobs group others : List Blob) (left_out : List Digest) →
      IsUploading w c s old now before between blobs (group ++ others) left_out → IsWithin group blobs
  group-within old now before between blobs group others left_out u = within-middle u.done group others blobs u.blobs_are

  pub uploading-goes-on : (old now new : C) (before between after : T) (blobs group others : List Blob) (left_out known : List Digest) →
      IsUploading w c s old now before between blobs (group ++ others) left_out → IsPartOf known (digests_of_blobs group) →
      HasExchanged c now new (IsUploaded (digests_of_blobs group) known) →
      HasRead w s between after group (IsReadEnd {A = List Digest} group (s.faults between) (s.faults after) (Ok known)) →
      IsUploading w c s old new before after blobs others (left_out ++ known)
  uploading-goes-on old now new before between after blobs group others left_out known u part g r =
      let grown = map-append digest_of_blob u.done group in
      record {
        done = u.done ++ group;
        blobs_are = append_assoc u.done group others ∙ u.blobs_are;
        left_part = subst (λ ds. IsPartOf (left_out ++ known) ds) (sym grown) (part-append left_out known (digests_of_blobs u.done) (digests_of_blobs group) u.left_part part);
        exchanged = exchanges-then c (IsUploaded (digests_of_blobs u.done) left_out) (IsUploaded (digests_of_blobs group) known)
            (IsUploaded (digests_of_blobs (u.done ++ group)) (left_out ++ known)) old now new u.exchanged g
            (λ front back f b. subst (λ ds. IsUploaded ds (left_out ++ known) (front ++ back)) (sym grown)
            (uploaded-both (digests_of_blobs u.done) (digests_of_blobs group) left_out known front back f b));
        read = read-then w s before between after blobs group known u.read r (group-within old now before between blobs group others left_out u);
      }

  pub uploading-ends : (old now : C) (before between : T) (blobs : List Blob) (left_out : List Digest) →
      IsUploading w c s old now before between blobs [] left_out → HasExchanged c old now (IsUploaded (digests_of_blobs blobs) left_out)
  uploading-ends old now before between blobs left_out u =
      subst (λ bs. HasExchanged c old now (IsUploaded (digests_of_blobs bs) left_out)) (sym (append-nil u.done) ∙ u.blobs_are) u.exchanged

  pub left-part : (old now : C) (before between : T) (blobs : List Blob) (left_out : List Digest) →
      IsUploading w c s old now before between blobs [] left_out → IsPartOf left_out (digests_of_blobs blobs)
  left-part old now before between blobs left_out u =
      subst (λ bs. IsPartOf left_out (digests_of_blobs bs)) (sym (append-nil u.done) ∙ u.blobs_are) u.left_part

  pub uploading-fails : (old now new : C) (before between : T) (blobs rest : List Blob) (left_out : List Digest) (fault : BlobFault) →
      IsUploading w c s old now before between blobs rest left_out → HasExchanged c now new (IsFailedUpload fault) → HasExchanged c old new (IsFailedUpload fault)
  uploading-fails old now new before between blobs rest left_out fault u g =
      exchanges-then c (IsUploaded (digests_of_blobs u.done) left_out) (IsFailedUpload fault) (IsFailedUpload fault) old now new u.exchanged g
      (λ front back f b. uploaded-failed (digests_of_blobs u.done) left_out fault front back f b)

  pub uploading-stops : (old now : C) (before between : T) (blobs rest : List Blob) (left_out : List Digest) →
      IsUploading w c s old now before between blobs rest left_out → HasExchanged c old now (IsFailedUpload faults.NoMemory)
  uploading-stops old now before between blobs rest left_out u =
      exchanges-are c (IsUploaded (digests_of_blobs u.done) left_out) (IsFailedUpload faults.NoMemory) old now u.exchanged
      (λ part is. stopped (digests_of_blobs u.done) left_out part is)

pub nothing-both : {A : Type 0} (xs ys : List A) → xs ≡ [] → ys ≡ [] → xs ++ ys ≡ []
nothing-both xs ys e f = rw (e, f) refl
