pub mod CallRefusals
