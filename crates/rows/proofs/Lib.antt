pub mod ScanLaws
pub mod RefusalLaws
