-- Program has what the program prints and what its functions ask for.
pub mod Program
